-- Texts put into a buffer, one after another. Assumes nothing.
use Rattle.std.proofs.Common.{◌≡◌, ℕ, ◌+◌, ◌≤◌, List, [], ◌++◌, length, take, drop, sym, refl, ap, ◌∙◌, subst, arith}
use Rattle.std.proofs.lemmas.List.{append_assoc, drop-drop, take_at, drop_at, length-append, length-take-le, take-append-drop}
use Rattle.zonewriter.specs.declared.putting.Writer.{Writer}
use Rattle.zonewriter.specs.Puts.{placed, Puts}

-- s, and then s' after it
placed_more : (d s s' : List ℕ) (a b : ℕ) → a ≤ length d → b ≡ a + length s → placed (placed d a s) b s' ≡ placed d a (s ++ s')
placed_more d s s' a b h e =
    let q = drop (a + length s) d in
    let x = take a d ++ s in
    let len : length x ≡ b = length-append (take a d) s ∙ ap (λ k. k + length s) (length-take-le a d h) ∙ sym e in
    let whole : take a d ++ (s ++ q) ≡ x ++ q = sym (append_assoc (take a d) s q) in
    let back : drop (b + length s') (x ++ q) ≡ drop (a + length (s ++ s')) d =
    sym (drop-drop (length s') b (x ++ q)) ∙ ap (drop (length s')) (drop_at x q b len) ∙ drop-drop (length s') (a + length s) d ∙ ap (λ k. drop k d) (let l = length-append s s' in omega arith) in
    ap (λ l. take b l ++ (s' ++ drop (b + length s') l)) whole
    ∙ (λ j. take_at x q b len j ++ (s' ++ back j))
    ∙ append_assoc (take a d) s _
    ∙ ap (λ l. take a d ++ l) (sym (append_assoc s s' _))

-- nothing is put
pub puts_none : (w : Writer) → Puts w [] w
puts_none w = record { len = omega arith; bytes = sym (ap (λ k. take w.len w.buffer.now ++ drop k w.buffer.now) (let z : w.len + 0 ≡ w.len = omega arith in z) ∙ take-append-drop w.len w.buffer.now); size = refl }

-- one text and then another
pub puts_more : {u v w : Writer} {s s' : List ℕ} → u.len ≤ length u.buffer.now → Puts u s v → Puts v s' w → Puts u (s ++ s') w
puts_more {u} {v} {w} {s} {s'} h p q =
    record {
      len = let l = length-append s s' in omega (arith, p.len, q.len);
      bytes = q.bytes ∙ ap (λ l. placed l v.len s') p.bytes ∙ placed_more u.buffer.now s s' u.len v.len h p.len;
      size = q.size ∙ p.size;
    }

-- the same text
pub puts_same : {u w : Writer} {s s' : List ℕ} → s ≡ s' → Puts u s w → Puts u s' w
puts_same {u} {w} is p = subst (λ t. Puts u t w) is p
