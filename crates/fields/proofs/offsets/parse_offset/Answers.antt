-- The size is read first, and then the sign.
use Rattle.fields.proofs.Parsing.{no_clock, with_sign}
use Rattle.fields.proofs.offsets.parse_offset.Goals as goal

pub returns-in_err-size : goal.returns-in_err-size
returns-in_err-size c = rw c.from_residual.ensures (no_clock c.args.text.now c.in_err-size.ensures)

pub returns : goal.returns
returns c = with_sign c.args.text.now c.in_ok-size.size _ c.in_ok-size.ensures c.signed.ensures
