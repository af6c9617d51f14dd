-- One line after another gives what the whole text gives. Assumes nothing.
use Rattle.std.proofs.Common.{◌≡◌, ℕ, ◌+◌, ◌-◌, ◌<◌, ◌≤◌, false, cond, List, [], ◌∷◌, length, take, drop, Some, None, Err, IsErrAnd, Option, Result, sym, refl, ap, ◌∙◌, arith}
use Rattle.std.specs.Option.{ok_or}
use Rattle.std.proofs.lemmas.List.{drop-drop, length-take-le, length-drop, take_rest}
use Rattle.std.proofs.lemmas.Result.{err_from_is_err_and}
use Rattle.zone.specs.Refusals.{answered}
use Rattle.zonetext.specs.declared.places.Part.TheVariants.{Empty, Started, Left, Full}
use Rattle.zonetext.specs.declared.places.Place.{Place}
use Rattle.zonetext.specs.declared.places.Place.TheVariants.{Before, Head, Named, Between, Inside, After}
use Rattle.zonetext.specs.declared.places.Reader.{Reader}
use Rattle.zonetext.specs.Lines.{Lines, rest, line, cut, Said, odd, said}
use Rattle.zonetext.specs.Reading.{State, start, move, step, zone_read, fails, is_after, ending, or_fail, run, reading, scanned}

-- what is left of t from the byte a on gives what all of t gives
abbrev pub Going : List ℕ → ℕ → State → Type 0
Going t a s = run s a (cut (drop a t)) ≡ reading t

run_line : (s : State) (o : ℕ) (l : List ℕ) (ls : Lines) → run s o (line l ls) ≡ or_fail (step s (said l)) o (λ s'. run s' (o + (length l + 2)) ls)
unfolding run
run_line s o l ls = refl

pub run_on : (s s' : State) (o : ℕ) (l : List ℕ) (ls : Lines) → step s (said l) ≡ Some s' → run s o (line l ls) ≡ run s' (o + (length l + 2)) ls
run_on s s' o l ls e = run_line s o l ls ∙ ap (λ r. or_fail r o (λ s''. run s'' (o + (length l + 2)) ls)) e

pub run_stop : (s : State) (o : ℕ) (l : List ℕ) (ls : Lines) → step s (said l) ≡ None → run s o (line l ls) ≡ fails o
run_stop s o l ls e = run_line s o l ls ∙ ap (λ r. or_fail r o (λ s''. run s'' (o + (length l + 2)) ls)) e

pub run_rest : (s : State) (o : ℕ) (t : List ℕ) → run s o (rest t) ≡ ending s o t
unfolding run
run_rest s o t = refl

move_odd : (p : Place) (s : State) → move p s odd ≡ None
move_odd Before s = refl
move_odd Named s = refl
move_odd Head s = refl
move_odd Between s = refl
move_odd (Inside o Empty) s = refl
move_odd (Inside o (Started d)) s = refl
move_odd (Inside o (Left d x)) s = refl
move_odd (Inside o (Full d x y)) s = refl
move_odd After s = refl

-- a line without a colon stands nowhere
pub step_odd : (s : State) → step s odd ≡ None
step_odd s = move_odd s.place s

pub reading_is : (t : List ℕ) → reading t ≡ run start 0 (cut t)
unfolding reading
reading_is t = refl

pub going_start : (t : List ℕ) (s : State) → s ≡ start → Going t 0 s
going_start t s e = ap (λ x. run x 0 (cut t)) e ∙ sym (reading_is t)

not_after : (p : Place) → (p ≡ After → ⊥) → is_after p ≡ false
not_after Before n = refl
not_after Head n = refl
not_after Named n = refl
not_after Between n = refl
not_after (Inside o q) n = refl
not_after After n = absurd (n refl)

ending_none : (s : State) (a : ℕ) (r : List ℕ) → length r ≡ 0 → ending s a r ≡ cond (is_after s.place) (answered (zone_read s)) (fails a)
ending_none s a [] h = refl
ending_none s a (c ∷ r) h = absurd (omega arith)

ending_some : (s : State) (a : ℕ) (r : List ℕ) → 0 < length r → ending s a r ≡ fails (cond (is_after s.place) a (a + length r))
ending_some s a [] h = absurd (omega arith)
ending_some s a (c ∷ r) h = refl

ending_early : (s : State) (a : ℕ) (r : List ℕ) → is_after s.place ≡ false → ending s a r ≡ fails (a + length r)
ending_early s a [] e = let z : a ≡ a + 0 = omega arith in ap (λ b. cond b (answered (zone_read s)) (fails a)) e ∙ ap fails z
ending_early s a (c ∷ r) e = ap (λ b. fails (cond b a (a + length (c ∷ r)))) e

-- what is left, as the code has it, is &t[a..], and w is what its first line says
module _ (t : List ℕ) (a : ℕ) (s : State) (g : Going t a s) where
  here : run s a (cut (take (length t - a) (drop a t))) ≡ reading t
  here = ap (λ k. run s a (cut k)) (take_rest t a) ∙ g

  -- its first line, as the code has it, is &t[a..a + n]
  said_here : (n : ℕ) (w : Said) → w ≡ said (take (a + n - a) (drop a t)) → said (take n (take (length t - a) (drop a t))) ≡ w
  said_here n w e = let z : n ≡ a + n - a = omega arith in (λ j. said (take (z j) (take_rest t a j))) ∙ sym e

  pub turn_on : (n : ℕ) (s' : State) (w : Said) → let r = take (length t - a) (drop a t) in n + 2 ≤ length r → cut r ≡ line (take n r) (cut (drop (n + 2) r)) → w ≡ said (take (a + n - a) (drop a t)) → step s w ≡ Some s' → Going t (a + (n + 2)) s'
  turn_on n s' w h e is m =
      let r = take (length t - a) (drop a t) in
      let len : length (take n r) ≡ n = length-take-le n r (omega arith) in
      let after : drop (n + 2) r ≡ drop (a + (n + 2)) t = ap (drop (n + 2)) (take_rest t a) ∙ drop-drop (n + 2) a t in
      sym (ap (λ k. run s a k) e ∙ run_on s s' a _ _ (ap (step s) (said_here n w is) ∙ m) ∙ (λ j. run s' (a + (len j + 2)) (cut (after j)))) ∙ here

  pub turn_stop : (n : ℕ) (w : Said) → let r = take (length t - a) (drop a t) in cut r ≡ line (take n r) (cut (drop (n + 2) r)) → w ≡ said (take (a + n - a) (drop a t)) → step s w ≡ None → fails a ≡ reading t
  turn_stop n w e is m = sym (ap (λ k. run s a k) e ∙ run_stop s a _ _ (ap (step s) (said_here n w is) ∙ m)) ∙ here

  -- no line ends here
  rest_here : let r = take (length t - a) (drop a t) in cut r ≡ rest r → ending s a r ≡ reading t
  rest_here e = let r = take (length t - a) (drop a t) in sym (ap (λ k. run s a k) e ∙ run_rest s a r) ∙ here

  length_here : length (take (length t - a) (drop a t)) ≡ length t - a
  length_here = ap length (take_rest t a) ∙ length-drop a t

  -- the text was complete, and ends here
  pub turn_done : let r = take (length t - a) (drop a t) in cut r ≡ rest r → a ≡ length t → s.place ≡ After → answered (zone_read s) ≡ reading t
  turn_done e h p =
      let r = take (length t - a) (drop a t) in
      let n : length r ≡ 0 = omega (arith, length_here) in
      sym (ending_none s a r n ∙ ap (λ q. cond (is_after q) (answered (zone_read s)) (fails a)) p) ∙ rest_here e

  -- the text was complete, and more stands here
  pub turn_more : let r = take (length t - a) (drop a t) in cut r ≡ rest r → a ≤ length t → (a ≡ length t → ⊥) → s.place ≡ After → fails a ≡ reading t
  turn_more e h n p =
      let r = take (length t - a) (drop a t) in
      let l : 0 < length r = omega (arith, length_here) in
      sym (ending_some s a r l ∙ ap (λ q. fails (cond (is_after q) a (a + length r))) p) ∙ rest_here e

  -- the text ends early
  pub turn_early : let r = take (length t - a) (drop a t) in cut r ≡ rest r → a ≤ length t → (s.place ≡ After → ⊥) → fails (length t) ≡ reading t
  turn_early e h n =
      let r = take (length t - a) (drop a t) in
      let l : a + length r ≡ length t = omega (arith, length_here) in
      sym (ending_early s a r (not_after s.place n) ∙ ap fails l) ∙ rest_here e

error_is : {X : Type 0} (e a : ℕ) → ◌≡◌ {A = Result X ℕ} (Err e) (Err a) → e ≡ a
error_is e a h = cc

-- where x is none, what x.ok_or(a)? returns
pub stopped : {X : Type 0} (x : Option X) (r : Result Reader ℕ) (e a : ℕ) → ◌≡◌ {A = Result X ℕ} (Err e) (ok_or x a) → x ≡ None → IsErrAnd r (λ f. f ≡ e) → scanned r ≡ fails a
stopped {X} x r e a v n h =
    let y = err_from_is_err_and r h in
    ap scanned y.1 ∙ ap fails (y.2 ∙ error_is {X = X} e a (v ∙ ap (λ o. ok_or o a) n))
