-- The first CR LF of a text ends its first line, and the first colon of a line parts it. Assumes nothing.
use Rattle.std.proofs.Common.{◌≡◌, ℕ, zero, suc, ◌+◌, ◌-◌, ◌<◌, ◌≤◌, false, ◌&&◌, eqb, List, [], ◌∷◌, ◌++◌, length, get_or, take, drop, Some, None, MatchOption, Option, sym, refl, ap, ◌∙◌, subst, ⊎_elim, arith}
use Rattle.std.proofs.lemmas.List.{drop_more, take_more, append-nil, take-append-drop, length-drop, drop_all}
use Rattle.std.proofs.lemmas.Bool.{eq-eqb, ne_eqb, cases_eq, cond-true, cond-false, and_left, and_right}
use Rattle.zonetext.specs.Lines.{Lines, rest, line, glue, cut, whole, apart, grow, split}

-- f at each byte, from the last to the first
abbrev pub each : {K : Type 0} → (ℕ → K → K) → List ℕ → K → K
each f [] k = k
each f (c ∷ cs) k = f c (each f cs k)

each_push : {K : Type 0} (f : ℕ → K → K) (xs : List ℕ) (x : ℕ) (k : K) → each f (xs ++ x ∷ []) k ≡ each f xs (f x k)
each_push f [] x k = refl
each_push f (c ∷ cs) x k = ap (f c) (each_push f cs x k)

-- F of the text is f of each byte so far, over F of what is left
abbrev pub Sofar : {K : Type 0} → (List ℕ → K) → (ℕ → K → K) → List ℕ → ℕ → Type 0
Sofar F f t i = F t ≡ each f (take i t) (F (drop i t))

pub sofar_more : {K : Type 0} (F : List ℕ → K) (f : ℕ → K → K) (t : List ℕ) (i : ℕ) → i < length t → F (drop i t) ≡ f (get_or t i 0) (F (drop (i + 1) t)) → Sofar F f t i → Sofar F f t (i + 1)
sofar_more F f t i h e g =
    g ∙ ap (λ k. each f (take i t) k) e ∙ sym (each_push f (take i t) (get_or t i 0) _) ∙ ap (λ l. each f l (F (drop (i + 1) t))) (sym (take_more t i 0 h))

-- lines
glues_line : (xs l : List ℕ) (k : Lines) → each glue xs (line l k) ≡ line (xs ++ l) k
glues_line [] l k = refl
glues_line (x ∷ xs) l k = ap (glue x) (glues_line xs l k)

glues_rest : (xs l : List ℕ) → each glue xs (rest l) ≡ rest (xs ++ l)
glues_rest [] l = refl
glues_rest (x ∷ xs) l = ap (glue x) (glues_rest xs l)

two_more : (t : List ℕ) (i : ℕ) → i + 1 < length t → drop i t ≡ get_or t i 0 ∷ get_or t (i + 1) 0 ∷ drop (i + 2) t
two_more t i h =
    let same : i + 1 + 1 ≡ i + 2 = omega arith in
    drop_more t i 0 (omega arith) ∙ ap (λ l. get_or t i 0 ∷ l) (drop_more t (i + 1) 0 h ∙ ap (λ n. get_or t (i + 1) 0 ∷ drop n t) same)

not_both : (a b : ℕ) → (a ≡ 13 → b ≡ 10 → ⊥) → (eqb a 13 && eqb b 10) ≡ false
not_both a b h = ⊎_elim (λ e. and_right _ _ (ne_eqb b 10 (h e))) (λ n. and_left _ _ (ne_eqb a 13 n)) (cases_eq a 13)

pub cut_on : (a b : ℕ) (cs : List ℕ) → (a ≡ 13 → b ≡ 10 → ⊥) → cut (a ∷ b ∷ cs) ≡ glue a (cut (b ∷ cs))
unfolding cut
cut_on a b cs h = cond-false _ (line [] (cut cs)) (glue a (cut (b ∷ cs))) (not_both a b h)

pub cut_here : (cs : List ℕ) → cut (13 ∷ 10 ∷ cs) ≡ line [] (cut cs)
unfolding cut
cut_here cs = refl

pub line_more : (t : List ℕ) (i : ℕ) → i + 1 < length t → (get_or t i 0 ≡ 13 → get_or t (i + 1) 0 ≡ 10 → ⊥) → Sofar cut glue t i → Sofar cut glue t (i + 1)
line_more t i h n g =
    let e = drop_more t (i + 1) 0 h in
    let same : i + 2 ≡ i + 1 + 1 = omega arith in
    sofar_more cut glue t i (omega arith) (ap cut (two_more t i h) ∙ cut_on _ _ _ n ∙ ap (λ l. glue (get_or t i 0) (cut l)) (ap (λ k. get_or t (i + 1) 0 ∷ drop k t) same ∙ sym e)) g

pub line_found : (t : List ℕ) (i : ℕ) → i + 1 < length t → get_or t i 0 ≡ 13 → get_or t (i + 1) 0 ≡ 10 → Sofar cut glue t i → cut t ≡ line (take i t) (cut (drop (i + 2) t))
line_found t i h a b g =
    g ∙ ap (λ k. each glue (take i t) k) (ap cut (two_more t i h ∙ (λ j. a j ∷ b j ∷ drop (i + 2) t)) ∙ cut_here _) ∙ glues_line (take i t) [] _ ∙ ap (λ l. line l (cut (drop (i + 2) t))) (append-nil _)

cut_short : (xs : List ℕ) → length xs ≤ 1 → cut xs ≡ rest xs
unfolding cut
cut_short [] h = refl
cut_short (x ∷ []) h = refl
cut_short (x ∷ y ∷ xs) h = absurd (omega arith)

pub line_none : (t : List ℕ) (i : ℕ) → length t ≤ i + 1 → Sofar cut glue t i → cut t ≡ rest t
line_none t i h g =
    g ∙ ap (λ k. each glue (take i t) k) (cut_short (drop i t) (simp length-drop (omega arith))) ∙ glues_rest (take i t) (drop i t) ∙ ap rest (take-append-drop i t)

line_sofar : (t : List ℕ) (n : ℕ) → n ≤ length t - 1 → ((k : ℕ) → k < n → get_or t k 0 ≡ 13 → get_or t (k + 1) 0 ≡ 10 → ⊥) → Sofar cut glue t n
line_sofar t zero l h = refl
line_sofar t (suc n) l h =
    let e : n + 1 ≡ suc n = omega arith in
    subst (Sofar cut glue t) e (line_more t n (omega arith) (h n (omega arith)) (line_sofar t n (omega arith) (λ k q. h k (omega arith))))

-- the first place at which P holds, if it holds at one below m
abbrev pub IsFirst : (ℕ → Type 0) → ℕ → Option ℕ → Type 0
IsFirst P m r = MatchOption r ((k : ℕ) → k < m → P k → ⊥) (λ n. (n < m) × P n × ((k : ℕ) → k < n → P k → ⊥))

pub line_is : (t : List ℕ) (r : Option ℕ) → IsFirst (λ k. (get_or t k 0 ≡ 13) × (get_or t (k + 1) 0 ≡ 10)) (length t - 1) r → MatchOption r (cut t ≡ rest t) (λ n. (n + 2 ≤ length t) × (cut t ≡ line (take n t) (cut (drop (n + 2) t))))
line_is t None h = line_none t (length t - 1) (omega arith) (line_sofar t (length t - 1) (omega arith) (λ k q a b. h k q (a, b)))
line_is t (Some n) h = (omega (arith, h.0), line_found t n (omega (arith, h.0)) h.1.0 h.1.1 (line_sofar t n (omega (arith, h.0)) (λ k q a b. h.2 k q (a, b))))

-- a colon
grows_apart : (xs n v : List ℕ) → each grow xs (apart n v) ≡ apart (xs ++ n) v
grows_apart [] n v = refl
grows_apart (x ∷ xs) n v = ap (grow x) (grows_apart xs n v)

grows_whole : (xs : List ℕ) → each grow xs whole ≡ whole
grows_whole [] = refl
grows_whole (x ∷ xs) = ap (grow x) (grows_whole xs)

split_on : (c : ℕ) (cs : List ℕ) → (c ≡ 58 → ⊥) → split (c ∷ cs) ≡ grow c (split cs)
unfolding split
split_on c cs h = cond-false _ (apart [] cs) (grow c (split cs)) (ne_eqb c 58 h)

split_here : (c : ℕ) (cs : List ℕ) → c ≡ 58 → split (c ∷ cs) ≡ apart [] cs
unfolding split
split_here c cs h = cond-true _ (apart [] cs) (grow c (split cs)) (eq-eqb c 58 h)

split_none : split [] ≡ whole
unfolding split
split_none = refl

pub colon_more : (t : List ℕ) (i : ℕ) → i < length t → (get_or t i 0 ≡ 58 → ⊥) → Sofar split grow t i → Sofar split grow t (i + 1)
colon_more t i h n g = sofar_more split grow t i h (ap split (drop_more t i 0 h) ∙ split_on _ _ n) g

pub colon_found : (t : List ℕ) (i : ℕ) → i < length t → get_or t i 0 ≡ 58 → Sofar split grow t i → split t ≡ apart (take i t) (drop (i + 1) t)
colon_found t i h e g =
    g ∙ ap (λ k. each grow (take i t) k) (ap split (drop_more t i 0 h) ∙ split_here _ _ e) ∙ grows_apart (take i t) [] _ ∙ ap (λ l. apart l (drop (i + 1) t)) (append-nil _)

pub colon_none : (t : List ℕ) (i : ℕ) → length t ≤ i → Sofar split grow t i → split t ≡ whole
colon_none t i h g = g ∙ ap (λ k. each grow (take i t) (split k)) (drop_all i t h) ∙ ap (λ k. each grow (take i t) k) split_none ∙ grows_whole (take i t)

colon_sofar : (t : List ℕ) (n : ℕ) → n ≤ length t → ((k : ℕ) → k < n → get_or t k 0 ≡ 58 → ⊥) → Sofar split grow t n
colon_sofar t zero l h = refl
colon_sofar t (suc n) l h =
    let e : n + 1 ≡ suc n = omega arith in
    subst (Sofar split grow t) e (colon_more t n (omega arith) (h n (omega arith)) (colon_sofar t n (omega arith) (λ k q. h k (omega arith))))

pub colon_is : (t : List ℕ) (r : Option ℕ) → IsFirst (λ k. get_or t k 0 ≡ 58) (length t) r → MatchOption r (split t ≡ whole) (λ n. (n < length t) × (split t ≡ apart (take n t) (drop (n + 1) t)))
colon_is t None h = colon_none t (length t) (omega arith) (colon_sofar t (length t) (omega arith) h)
colon_is t (Some n) h = (h.0, colon_found t n h.0 h.1 (colon_sofar t n (omega (arith, h.0)) h.2))
