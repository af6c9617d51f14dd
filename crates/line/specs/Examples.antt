-- Worked examples: the fates of lines made of bytes. Assumes nothing.
use Rattle.std.specs.Prelude.{◌≡◌, [], ◌∷◌, length, replicate, codes}
use Rattle.line.specs.declared.fates.Fate.TheVariants.{Pass, LoseRequest, LoseReply}
use Rattle.line.specs.Fates.{fates_of, next_fate, left_after}

-- marks, a byte that is none, as many as fit and one more, and the fates that are used up
pub record Worked : Type 0 where
  pub marks : fates_of (codes "pqr") ≡ Pass ∷ LoseRequest ∷ LoseReply ∷ []
  pub other : fates_of (codes "pxr") ≡ []
  pub most : length (fates_of (replicate 64 113)) ≡ 64
  pub too_many : fates_of (replicate 65 113) ≡ []
  pub next : next_fate (fates_of (codes "qp")) ≡ LoseRequest
  pub left : left_after (fates_of (codes "qp")) ≡ Pass ∷ []
  pub none_left : next_fate (left_after []) ≡ Pass
