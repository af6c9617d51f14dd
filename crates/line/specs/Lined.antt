-- What a line's meaning keeps of the meaning below. It stands here and not in proofs/, since the proof of a law names no lemma of proofs/. Assumes nothing.
use Rattle.std.specs.Prelude.{ℕ, ◌≤◌}
use Rattle.std.proofs.Common.{zero-le}
use Rattle.provider.specs.Meaning.{Meaning, Sound}
use Rattle.line.specs.declared.fates.Fate.{Fate}
use Rattle.line.specs.declared.fates.Fate.TheVariants.{Pass, LoseRequest, LoseReply}
use Rattle.line.specs.Sending.{turn_by}

-- what a line means whose next fetch has this fate
abbrev pub lined : Fate → Meaning → Meaning
lined f m = record { span = m.span; count = m.count; pages = m.pages; turn = λ n i. turn_by f (m.turn n i) }

low : (f : Fate) (t n : ℕ) → t ≤ n → turn_by f t ≤ n
low Pass t n h = h
low LoseRequest t n h = zero-le
low LoseReply t n h = zero-le

pub lined_sound : (f : Fate) (m : Meaning) → Sound m → Sound (lined f m)
lined_sound f m s = record { in_era = s.in_era; few = s.few; turns = λ n i. low f (m.turn n i) m.count (s.turns n i); paged = s.paged; one_table = s.one_table }
