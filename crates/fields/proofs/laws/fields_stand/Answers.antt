-- The laws, from the lemmas.
use Rattle.fields.proofs.Parsing.{parsed_printed, parsed_only}
use Rattle.fields.proofs.Dates.{read_text, read_only}
use Rattle.fields.proofs.Shapes as shapes
use Rattle.fields.proofs.laws.fields_stand.Goals as goal

pub returns : goal.returns
returns c =
    record {
      offset_back = parsed_printed;
      offset_only = parsed_only;
      offset_length = shapes.offset_length;
      offset_bytes = shapes.offset_bytes;
      stamp_back = read_text;
      stamp_only = read_only;
      stamp_length = shapes.stamp_length;
      stamp_bytes = shapes.stamp_bytes;
    }
