-- What an outcome says of the checks that it passed. Assumes nothing.
use Rattle.std.proofs.Common.{◌≡◌, ℕ, Bool, true, false, cond, eqb, leb, List, [], ◌∷◌, length, Some, None, Option, refl, subst, arith}
use Rattle.std.proofs.lemmas.Bool.{eqb-true, eqb-false, leb-true}
use Rattle.zone.specs.declared.rows.Interval.{Interval}
use Rattle.zone.specs.declared.rows.Row.{Row}
use Rattle.zone.specs.Intervals.{era, within}
use Rattle.names.specs.Names.{is_name}
use Rattle.zone.specs.Refusals.{Outcome, answered, refused}
use Rattle.zone.specs.Rows.{window_rows}
use Rattle.cutting.specs.Cutting.{cut}
use Rattle.provider.specs.declared.requests.Request.{Request}
use Rattle.provider.specs.Fetching.{Answer, unchanged, fresh, checked, page_answer, edition_answer, fetched}
use Rattle.provider.specs.Laws.{Answering, AnswersComeFromPages}
use Rattle.provider.specs.Meaning.{Page, Meaning}

-- nothing is both a refusal and an answer
clash : {X Y : Type 0} {n : ℕ} {vs : List ℕ} {x : X} → ◌≡◌ {A = Outcome X} (refused n vs) (answered x) → Y
clash h = let z : ◌≡◌ {A = ℕ} 0 1 = cc in absurd (omega arith)

-- an answer passed the check
pub passed : {X : Type 0} (b : Bool) (next : Outcome X) (n : ℕ) (vs : List ℕ) (x : X) → cond b next (refused n vs) ≡ answered x → (b ≡ true) × (next ≡ answered x)
passed true next n vs x h = (refl, h)
passed false next n vs x h = clash h

passed_not : {X : Type 0} (b : Bool) (next : Outcome X) (n : ℕ) (vs : List ℕ) (x : X) → cond b (refused n vs) next ≡ answered x → (b ≡ false) × (next ≡ answered x)
passed_not true next n vs x h = clash h
passed_not false next n vs x h = (refl, h)

-- the request passes the first three checks
pub record Passes (q : Request) (span : Interval) : Type 0 where
  pub name : is_name q.name.bytes ≡ true
  pub era : within q.interval era ≡ true
  pub inside : within q.interval span ≡ true

pub checked_answer : {X : Type 0} (q : Request) (span : Interval) (next : Outcome X) (x : X) → checked q span next ≡ answered x → Passes q span × (next ≡ answered x)
checked_answer q span next x h =
    let a = passed (is_name q.name.bytes) _ 1 [] x h in
    let b = passed (within q.interval era) _ 2 [] x a.1 in
    let c = passed (within q.interval span) next 3 [] x b.1 in
    (record { name = a.0; era = b.0; inside = c.0 }, c.1)

-- after the checks comes what comes next
pub checked_next : {X : Type 0} (q : Request) (span : Interval) (next : Outcome X) → Passes q span → checked q span next ≡ next
checked_next q span next p = rw (p.name, p.era, p.inside)

-- a check's refusal is the refusal of the whole
check_refused : {X Y : Type 0} (b : Bool) (x : Outcome X) (y : Outcome Y) (k n : ℕ) (ks vs : List ℕ) → (refused n vs ≡ x → refused n vs ≡ y) → refused n vs ≡ cond b x (refused k ks) → refused n vs ≡ cond b y (refused k ks)
check_refused true x y k n ks vs f h = f h
check_refused false x y k n ks vs f h = cc

pub checked_refused : {X : Type 0} (q : Request) (span : Interval) (next : Outcome X) (n : ℕ) (vs : List ℕ) → ◌≡◌ {A = Outcome (Unit {0})} (refused n vs) (checked q span (answered tt)) → refused n vs ≡ checked q span next
checked_refused q span next n vs h =
    check_refused (is_name q.name.bytes) _ _ 1 n [] vs (check_refused (within q.interval era) _ _ 2 n [] vs (check_refused {X = Unit {0}} (within q.interval span) (answered tt) next 3 n [] vs (λ g. clash g))) h

-- the page of an answer
pub page_of : {x : Answer} (m : Meaning) (q : Request) → fetched m q ≡ answered x → (e : ℕ) × (p : Page) × Answering m q e p × (page_answer e q p ≡ answered x)
page_of {x} m q h =
    let c = checked_answer q m.span _ x h in
    let e = m.turn q.name q.interval in
    let t = passed_not (eqb e 0) (edition_answer e q (m.pages e q.name)) 4 [] x c.1 in
    at (m.pages e q.name) refl c.0.inside (eqb-false e 0 t.0) t.1
  where
    at : (o : Option Page) → m.pages (m.turn q.name q.interval) q.name ≡ o → within q.interval m.span ≡ true → (m.turn q.name q.interval ≡ 0 → ⊥) → edition_answer (m.turn q.name q.interval) q o ≡ answered x → (e : ℕ) × (p : Page) × Answering m q e p × (page_answer e q p ≡ answered x)
    at None o i n g = clash g
    at (Some p) o i n g =
        let e = m.turn q.name q.interval in
        let s = passed (leb (length (cut p.rows q.interval)) window_rows) _ 6 (e ∷ []) x g in
        (e, p, record { inside = i; turn = refl; some = omega (arith, n); page = o; small = leb-true (length (cut p.rows q.interval)) window_rows s.0 }, g)

pub answers_come_from_pages : AnswersComeFromPages
answers_come_from_pages = record { from_unchanged = λ m q e h. from_unchanged m q e h; from_fresh = λ m q e g rows h. from_fresh m q e g rows h }
  where
    -- which answer a page gives
    unchanged_by : (m : Meaning) (q : Request) (e f : ℕ) (p : Page) (b : Bool) → eqb p.tag q.known ≡ b → Answering m q f p → cond b (answered (unchanged f)) (answered (fresh f p.tag (cut p.rows q.interval))) ≡ answered (unchanged e) → (p : Page) × Answering m q e p × (p.tag ≡ q.known)
    unchanged_by m q e f p true t a h = let k : f ≡ e = cc in (p, subst (λ x. Answering m q x p) k a, eqb-true p.tag q.known t)
    unchanged_by m q e f p false t a h = let z : ◌≡◌ {A = ℕ} 0 1 = cc in absurd (omega arith)

    fresh_by : (m : Meaning) (q : Request) (e g f : ℕ) (rows : List Row) (p : Page) (b : Bool) → Answering m q f p → cond b (answered (unchanged f)) (answered (fresh f p.tag (cut p.rows q.interval))) ≡ answered (fresh e g rows) → (p : Page) × Answering m q e p × (p.tag ≡ g) × (rows ≡ cut p.rows q.interval)
    fresh_by m q e g f rows p true a h = let z : ◌≡◌ {A = ℕ} 0 1 = cc in absurd (omega arith)
    fresh_by m q e g f rows p false a h = let k : f ≡ e = cc in (p, subst (λ x. Answering m q x p) k a, cc, cc)

    from_unchanged : (m : Meaning) (q : Request) (e : ℕ) → fetched m q ≡ answered (unchanged e) → (p : Page) × Answering m q e p × (p.tag ≡ q.known)
    from_unchanged m q e h =
        let w = page_of m q h in
        let s = passed (leb (length (cut w.1.rows q.interval)) window_rows) _ 6 (w.0 ∷ []) (unchanged e) w.3 in
        unchanged_by m q e w.0 w.1 (eqb w.1.tag q.known) refl w.2 s.1

    from_fresh : (m : Meaning) (q : Request) (e g : ℕ) (rows : List Row) → fetched m q ≡ answered (fresh e g rows) → (p : Page) × Answering m q e p × (p.tag ≡ g) × (rows ≡ cut p.rows q.interval)
    from_fresh m q e g rows h =
        let w = page_of m q h in
        let s = passed (leb (length (cut w.1.rows q.interval)) window_rows) _ 6 (w.0 ∷ []) (fresh e g rows) w.3 in
        fresh_by m q e g w.0 rows w.1 (eqb w.1.tag q.known) w.2 s.1
