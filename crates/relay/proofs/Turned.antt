-- What a turn answers. Assumes nothing.
use Rattle.std.proofs.Common.{◌≡◌, ℕ, ◌≤◌, Bool, true, false, cond, ◌&&◌, ◌||◌, eqb, ltb, leb, ◌⊎◌, List, [], ◌∷◌, length, get_or, Some, None, Option, sym, refl, ap, ◌∙◌, inl, inr, arith}
use Rattle.std.proofs.lemmas.Bool.{eqb-true, ne_eqb}
use Rattle.zone.specs.declared.rows.Interval.{Interval}
use Rattle.zone.specs.declared.rows.Row.{Row}
use Rattle.zone.specs.Intervals.{within}
use Rattle.zone.specs.Refusals.{Outcome, answered, refused}
use Rattle.zone.specs.Rows.{window_rows}
use Rattle.cutting.specs.Cutting.{cut}
use Rattle.provider.specs.declared.requests.Request.{Request}
use Rattle.provider.specs.Fetching.{Answer, unchanged, fresh, page_answer, inside_answer, edition_answer, turn_answer, fetched}
use Rattle.provider.specs.Meaning.{Meaning, Page}
use Rattle.provider.proofs.Checks.{Passes, checked_next}

-- which answer a page gives, by its tag and the cut of its rows
abbrev answer_of : ℕ → Request → ℕ → List Row → Outcome Answer
answer_of e q t rows = cond (leb (length rows) window_rows) (cond (eqb t q.known) (answered (unchanged e)) (answered (fresh e t rows))) (refused 6 (e ∷ []))

-- what is held of a page answers as the page does
pub same_answer : (of : Interval) (e : ℕ) (q : Request) (t : ℕ) (rows : List Row) (p : Page) → within q.interval of ≡ true → p.tag ≡ t → cut rows q.interval ≡ cut p.rows q.interval → inside_answer of e q (record { tag = t; rows = rows }) ≡ page_answer e q p
same_answer of e q t rows p w tag c =
    ap (λ (b : Bool). cond b (answer_of e q t (cut rows q.interval)) (refused 3 [])) w ∙ ap (answer_of e q t) c ∙ ap (λ x. answer_of e q x (cut p.rows q.interval)) (sym tag)

-- a fetch that passes the checks is answered by the turn
pub by_turn : (m : Meaning) (q : Request) (e : ℕ) → Passes q m.span → m.turn q.name q.interval ≡ e → fetched m q ≡ turn_answer e q (m.pages e q.name)
by_turn m q e pass t = checked_next q m.span _ pass ∙ ap (λ x. turn_answer x q (m.pages x q.name)) t

-- and by the page of that edition
pub by_page : (m : Meaning) (q : Request) (e : ℕ) (p : Page) → Passes q m.span → m.turn q.name q.interval ≡ e → 1 ≤ e → m.pages e q.name ≡ Some p → fetched m q ≡ page_answer e q p
by_page m q e p pass t some page =
    by_turn m q e pass t ∙ ap (turn_answer e q) page ∙ ap (λ (b : Bool). cond b (refused 4 []) (page_answer e q p)) (ne_eqb e 0 (λ z. absurd (omega arith)))

-- a refusal by the turn: silence, or that of its edition, which comes whatever tag is known
pub data RefusedBy (turn n : ℕ) (vs : List ℕ) (next : Outcome Answer) : Type 0 where
  silent : n ≡ 4 → turn ≡ 0 → RefusedBy turn n vs next
  edition : (n ≡ 5) ⊎ (n ≡ 6) → vs ≡ turn ∷ [] → next ≡ refused n vs → RefusedBy turn n vs next

module _ (q : Request) (t e n : ℕ) (vs : List ℕ) where
  -- the request with another tag
  abbrev other : Request
  other = record { name = q.name; interval = q.interval; known = t }

  many : (p : Page) (b : Bool) → refused n vs ≡ cond b (cond (eqb p.tag t) (answered (unchanged e)) (answered (fresh e p.tag (cut p.rows q.interval)))) (refused 6 (e ∷ [])) → RefusedBy e n vs (cond b (cond (eqb p.tag q.known) (answered (unchanged e)) (answered (fresh e p.tag (cut p.rows q.interval)))) (refused 6 (e ∷ [])))
  many p true h = clash (eqb p.tag t) h
    where
      clash : {X : Type 0} (b : Bool) → refused n vs ≡ cond b (answered (unchanged e)) (answered (fresh e p.tag (cut p.rows q.interval))) → X
      clash true g = cc
      clash false g = cc
  many p false h = edition (inr (cc)) (cc) (sym h)

  paged : (o : Option Page) → refused n vs ≡ edition_answer e other o → RefusedBy e n vs (edition_answer e q o)
  paged None h = edition (inl (cc)) (cc) (sym h)
  paged (Some p) h = many p (leb (length (cut p.rows q.interval)) window_rows) h

  pub refused_turn : (o : Option Page) → refused n vs ≡ turn_answer e other o → RefusedBy e n vs (turn_answer e q o)
  refused_turn o h = by (eqb e 0) refl h
    where
      by : (b : Bool) → eqb e 0 ≡ b → refused n vs ≡ cond b (refused 4 []) (edition_answer e other o) → RefusedBy e n vs (cond b (refused 4 []) (edition_answer e q o))
      by true z g = silent (cc) (eqb-true e 0 z)
      by false z g = paged o g

-- the kept edition is compared with that of the refusal
pub older_is : (k n e : ℕ) (vs : List ℕ) → (n ≡ 5) ⊎ (n ≡ 6) → vs ≡ e ∷ [] → (eqb n 4 || ((eqb n 5 || eqb n 6) && ltb (get_or vs 0 0) k)) ≡ ltb e k
older_is k n e vs (inl five) v = ap (λ x. eqb x 4 || ((eqb x 5 || eqb x 6) && ltb (get_or vs 0 0) k)) five ∙ ap (λ (x : List ℕ). ltb (get_or x 0 0) k) v
older_is k n e vs (inr six) v = ap (λ x. eqb x 4 || ((eqb x 5 || eqb x 6) && ltb (get_or vs 0 0) k)) six ∙ ap (λ (x : List ℕ). ltb (get_or x 0 0) k) v
