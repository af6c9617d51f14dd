-- The row's bytes besides its offsets, and theirs.
use Rattle.std.proofs.Common.{rules}
use Rattle.zonewriter.proofs.Rowing.{row_text_length}
use Rattle.zonewriter.proofs.rowtexts.row_len.Goals as goal

pub returns : goal.returns
returns c =
    let a = c.offset_text.ensures.len in
    let b = c.offset_text-2.ensures.len in
    let l = row_text_length c.args.row in
    search rules
