-- Bytes that are all marks. Assumes nothing.
use Rattle.std.proofs.Common.{◌≡◌, ℕ, true, List, [], ◌∷◌, map, refl, ap}
use Rattle.std.proofs.lemmas.Bool.{and_parts}
use Rattle.std.specs.List.{filter_map}
use Rattle.std.specs.Result.{result_ok}
use Rattle.line.specs.Fates.{are_marks, is_mark, read_mark, spelled}

-- each of them has its fate
pub all_read : (bs : List ℕ) → are_marks bs ≡ true → filter_map (λ b. result_ok (read_mark b)) bs ≡ map spelled bs
all_read [] h = refl
all_read (b ∷ bs) h =
    let p = and_parts (is_mark b) (are_marks bs) h in
    let k : is_mark b ≡ true = p.0 in
    rw k (ap (λ xs. spelled b ∷ xs) (all_read bs p.1))
