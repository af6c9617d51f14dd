-- Lemmas on the lines of a text. Assumes nothing.
use Rattle.std.proofs.Common.{◌≡◌, ℕ, ◌+◌, ◌<◌, ◌≤◌, eqb, List, [], ◌∷◌, length, get_or, drop, Some, None, Ok, Err, true, is_ok, IsErrAnd, MatchResult, Option, Result, sym, refl, ap, ◌∙◌, inl, inr, arith, zero-add, subst}
use Rattle.std.specs.List.{enumerate_from, slice_split, onto_first}
use Rattle.std.specs.Iterator.{Yields}
use Rattle.std.specs.Option.{ok_or}
use Rattle.std.proofs.lemmas.Iterator.{YieldsList}
use Rattle.std.proofs.lemmas.Iterator.Consumers.{YieldsList-turn, YieldsList-end}
use Rattle.std.proofs.lemmas.Bool.{cases_Bool, false≢true}
use Rattle.std.proofs.lemmas.List.{at_drop_more, at_drop_all}
use Rattle.std.proofs.lemmas.List.FromFn.{length-enumerate_from, get_or-enumerate_from}
use Rattle.script.specs.declared.scripts.Fault.{Fault}
use Rattle.script.specs.declared.scripts.Fault.TheVariants as fault
use Rattle.script.specs.declared.scripts.Script.{Script}
use Rattle.script.specs.declared.scripts.Trouble.{Trouble}
use Rattle.script.specs.declared.scripts.Trouble.TheVariants.{NotUnderstood, NoMemory}
use Rattle.script.specs.Drafts.{Read, line_read}
use Rattle.script.specs.Scripts.{Whole, in_front, lines_of, lines_read}
use Rattle.script.specs.Seeing.{finish_of, met, Reads, Took}

-- the parts between the line ends, the last of which may be empty
abbrev pub parts_of : List ℕ → List (List ℕ)
parts_of bs = slice_split (λ b. eqb b 10) bs

-- a last part, where it is not empty
abbrev last : List ℕ → List (List ℕ)
last [] = []
last (b ∷ bs) = (b ∷ bs) ∷ []

-- the parts without a last one that is empty
abbrev whole : List (List ℕ) → List (List ℕ)
whole [] = []
whole (x ∷ []) = last x
whole (x ∷ (y ∷ more)) = x ∷ whole (y ∷ more)

-- a text has a part at least
some_part : (bs : List ℕ) → (x : List ℕ) × (xs : List (List ℕ)) × (parts_of bs ≡ x ∷ xs)
some_part [] = ([], [], refl)
some_part (b ∷ bs) = elim (cases_Bool (eqb b 10)) [
  | inl y ↦ ([], parts_of bs, rw y refl)
  | inr n ↦ let p = some_part bs in (b ∷ p.0, p.1, rw (n, p.2) refl)
]

front_whole : (b : ℕ) (parts : List (List ℕ)) → in_front b (whole parts) ≡ whole (onto_first b parts)
front_whole b [] = refl
front_whole b ([] ∷ []) = refl
front_whole b ((c ∷ cs) ∷ []) = refl
front_whole b (x ∷ (y ∷ more)) = refl

-- the lines are the parts without a last one that is empty
lines_whole : (bs : List ℕ) → lines_of bs ≡ whole (parts_of bs)
lines_whole [] = refl
lines_whole (b ∷ bs) = elim (cases_Bool (eqb b 10)) [
  | inl y ↦ let p = some_part bs in rw (y, lines_whole bs, p.2) refl
  | inr n ↦ rw n (ap (in_front b) (lines_whole bs) ∙ front_whole b (parts_of bs))
]

-- what comes of a line, and then of the lines after it
abbrev onward : List (List ℕ) → ℕ → Option Read → Result Read ℕ
onward lines n None = Err n
onward lines n (Some d) = lines_read lines (n + 1) d

-- an empty line at the end says nothing
whole_read : (parts : List (List ℕ)) (n : ℕ) (d : Read) → lines_read (whole parts) n d ≡ lines_read parts n d
whole_read [] n d = refl
whole_read ([] ∷ []) n d = refl
whole_read ((b ∷ bs) ∷ []) n d = refl
whole_read (x ∷ (y ∷ more)) n d = elim (line_read d x) as (λ o. onward (whole (y ∷ more)) n o ≡ onward (y ∷ more) n o) [ None ↦ refl | Some e ↦ whole_read (y ∷ more) (n + 1) e ]

-- so a text may be read part by part
pub parts_read : (bs : List ℕ) (n : ℕ) (d : Read) → lines_read (parts_of bs) n d ≡ lines_read (lines_of bs) n d
parts_read bs n d = sym (ap (λ (x : List (List ℕ)). lines_read x n d) (lines_whole bs) ∙ whole_read (parts_of bs) n d)

-- the part with the index n, and the parts after it
part_step : (parts : List (List ℕ)) (n : ℕ) (line : List ℕ) → n < length parts → line ≡ get_or parts n line → drop n parts ≡ line ∷ drop (n + 1) parts
part_step parts n line l e = at_drop_more (λ xs. xs) parts n line l ∙ ap (λ (x : List ℕ). x ∷ drop (n + 1) parts) (sym e)

-- a part was understood, and the reading goes on
pub read_on : (parts : List (List ℕ)) (n : ℕ) (line : List ℕ) (d e : Read) → n < length parts → line ≡ get_or parts n line → Some e ≡ line_read d line → lines_read (drop n parts) (n + 1) d ≡ lines_read (drop (n + 1) parts) (n + 1 + 1) e
read_on parts n line d e l at h = ap (λ (x : List (List ℕ)). lines_read x (n + 1) d) (part_step parts n line l at) ∙ ap (onward (drop (n + 1) parts) (n + 1)) (sym h)

-- or it was not
pub read_off : (parts : List (List ℕ)) (n : ℕ) (line : List ℕ) (d : Read) → n < length parts → line ≡ get_or parts n line → None ≡ line_read d line → lines_read (drop n parts) (n + 1) d ≡ Err (n + 1)
read_off parts n line d l at h = ap (λ (x : List (List ℕ)). lines_read x (n + 1) d) (part_step parts n line l at) ∙ ap (onward (drop (n + 1) parts) (n + 1)) (sym h)

-- no part is left
pub read_all : (parts : List (List ℕ)) (n m : ℕ) (d : Read) → length parts ≤ n → lines_read (drop n parts) m d ≡ Ok d
read_all parts n m d h = at_drop_all (λ (x : List (List ℕ)). lines_read x m d) parts n h

-- a turn of a `for`, and its end, where the calls are known before the list that they give
pub turn : {S A B : Type 0} {steps : S → Option A → S → Type 0} {v : A → B} {s : S} {all : List B} (xs : List A) (t : S) → Yields steps s xs t → (r : Option A) (u : S) (x : A) → r ≡ Some x → steps t r u → YieldsList steps v s all → (length xs < length all) × (v x ≡ get_or all (length xs) (v x))
turn xs t y r u x i k given = YieldsList-turn given xs t y r u x i k

pub end : {S A B : Type 0} {steps : S → Option A → S → Type 0} {v : A → B} {s : S} {all : List B} (xs : List A) (t : S) → Yields steps s xs t → (r : Option A) (u : S) → r ≡ None → steps t r u → YieldsList steps v s all → length xs ≡ length all
end xs t y r u i k given = (YieldsList-end given xs t y r u i k).1

-- a part that comes with its index
pub part_turn : (parts : List (List ℕ)) (n index : ℕ) (line : List ℕ) → (n < length (enumerate_from 0 parts)) × ((index, line) ≡ get_or (enumerate_from 0 parts) n (index, line)) → (n < length parts) × (index ≡ n) × (line ≡ get_or parts n line)
part_turn parts n index line at =
    let l : n < length parts = omega (arith, at.0, length-enumerate_from 0 parts) in
    let e = at.1 ∙ get_or-enumerate_from 0 parts n (index, line) l in
    (l, ap (λ (p : ℕ × List ℕ). p.0) e ∙ zero-add n, ap (λ (p : ℕ × List ℕ). p.1) e)

-- a line that was taken
pub taken : (wanted : Option Read) (now : Read) (r : Result (Unit {0}) Trouble) → Took wanted r now → is_ok r ≡ true → Some now ≡ wanted
taken wanted now (Ok _) took h = took
taken wanted now (Err _) took h = absurd (false≢true h)

-- the fault of a line that was not
pub failed : (whole : Result Whole ℕ) (wanted : Option Read) (now : Read) (n : ℕ) (f : Fault) (r : Result (Unit {0}) Trouble) (m : Result (Unit {0}) Fault) → m ≡ Err f → MatchResult r (λ x. m ≡ Ok x) (λ e. IsErrAnd m (λ g. g ≡ met e n)) → Took wanted r now → (None ≡ wanted → whole ≡ Err n) → Reads whole (Err f)
failed whole wanted now n f (Ok x) m e cases took h = absurd (false≢true (ap is_ok (sym e ∙ cases)))
failed whole wanted now n f (Err NotUnderstood) m e cases took h = let met_so : f ≡ fault.NotUnderstood n = subst (λ (z : Result (Unit {0}) Fault). IsErrAnd z (λ g. g ≡ fault.NotUnderstood n)) e cases in subst (λ (g : Fault). Reads whole (Err g)) (sym met_so) (h took)
failed whole wanted now n f (Err NoMemory) m e cases took h = let met_so : f ≡ fault.NoMemory = subst (λ (z : Result (Unit {0}) Fault). IsErrAnd z (λ g. g ≡ fault.NoMemory)) e cases in subst (λ (g : Fault). Reads whole (Err g)) (sym met_so) tt

-- the end of a script
pub closed : (whole : Result Whole ℕ) (s : Option Script) → whole ≡ finish_of s → Reads whole (ok_or s (fault.NotUnderstood 1))
closed whole None h = h
closed whole (Some s) h = h
