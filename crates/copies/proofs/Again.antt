-- What writing a text again comes to.
use Rattle.std.proofs.Common.{◌≡◌, ℕ, Bool, true, false, cond, ◌&&◌, leb, List, [], ◌++◌, length, take, drop, Some, None, Ok, Err, Result, sym, refl, ap, ◌∙◌}
use Rattle.std.proofs.lemmas.Bool.{cond-true}
use Rattle.std.proofs.lemmas.Slice.Eq.{bytes_eq-Decides}
use Rattle.std.specs.Str.{bytes_eq}
use Rattle.std.proofs.lemmas.List.{take_at}
use Rattle.std.specs.Bool.{then_some}
use Rattle.std.specs.Result.{result_ok}
use Rattle.zone.specs.declared.refusals.Refusal.{Refusal}
use Rattle.names.specs.Names.{is_name}
use Rattle.zone.specs.Refusals.{Outcome, answered, refused, outcome}
use Rattle.zonetext.specs.Laws.{IsTextOf}
use Rattle.zonetext.specs.Reading.{Zone}
use Rattle.zonetext.specs.Writing.{text_of}
use Rattle.zonewriter.specs.Written.{writing, written}
use Rattle.copies.specs.Copies.{fitting, overlaid}

-- what writing comes to, by the text
abbrev pub comes : List ℕ → ℕ → Outcome ℕ
comes t m = cond (leb (length t) m) (answered (length t)) (refused 16 [])

pub comes_is : (z : Zone) (t : List ℕ) (m : ℕ) → IsTextOf t z → writing z m ≡ comes t m
comes_is z t m h = cond-true (is_name z.name) (comes (text_of z) m) (refused 1 []) h.0.named ∙ ap (λ x. comes x m) (sym h.1)

pub after_is : (z : Zone) (t b : List ℕ) → IsTextOf t z → written z b ≡ overlaid t b
after_is z t b h = ap (λ x. cond (x && leb (length (text_of z)) (length b)) (text_of z ++ drop (length (text_of z)) b) b) h.0.named ∙ ap (λ x. overlaid x b) (sym h.1)

-- an answer says that there was room
pub ok_at : (b : Bool) (t n : ℕ) → answered n ≡ cond b (answered t) (refused 16 []) → (b ≡ true) × (n ≡ t)
ok_at true t n e = (refl, cc)
ok_at false t n e = (cc, cc)

pub ok_size : (z : Zone) (t : List ℕ) (m n : ℕ) → IsTextOf t z → answered n ≡ writing z m → (leb (length t) m ≡ true) × (n ≡ length t)
ok_size z t m n h e = ok_at (leb (length t) m) (length t) n (e ∙ comes_is z t m h)

pub ok_fits : (z : Zone) (t : List ℕ) (m n : ℕ) → IsTextOf t z → answered n ≡ writing z m → Some n ≡ fitting (length t) m
ok_fits z t m n h e =
    let p = ok_size z t m n h e in
    ap (λ x. Some x) p.1 ∙ sym (cond-true (leb (length t) m) (Some (length t)) None p.0)

-- what was written is the text
pub ok_same : (z : Zone) (t b w : List ℕ) (n : ℕ) → IsTextOf t z → answered n ≡ writing z (length b) → w ≡ written z b → take n w ≡ t
ok_same z t b w n h e f =
    let p = ok_size z t (length b) n h e in
    let g = f ∙ after_is z t b h ∙ cond-true (leb (length t) (length b)) (t ++ drop (length t) b) b p.0 in
    ap (λ x. take n x) g ∙ ap (λ x. take x (t ++ drop (length t) b)) p.1 ∙ take_at t (drop (length t) b) (length t) refl

-- what was written is found to be the text
pub rewritten : (z : Zone) (t b w : List ℕ) (r : Result ℕ Refusal) (n : ℕ) → IsTextOf t z → outcome r ≡ writing z (length b) → w ≡ written z b → result_ok r ≡ Some n → then_some (bytes_eq (take n w) t) n ≡ fitting (length t) (length b)
rewritten z t b w (Ok m) n h e f g =
    let s : answered n ≡ answered m = cc in
    let same = ok_same z t b w n h (s ∙ e) f in
    ap (λ x. then_some x n) ((bytes_eq-Decides (take n w) t).1 same) ∙ ok_fits z t (length b) n h (s ∙ e)
rewritten z t b w (Err x) n h e f g = cc
