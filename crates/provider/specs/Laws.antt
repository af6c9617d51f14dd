-- What a fetch's answer says of the record. Assumes nothing.
use Rattle.std.specs.Prelude.{◌≡◌, ℕ, ◌≤◌, true, List, length, Some}
use Rattle.zone.specs.declared.rows.Row.{Row}
use Rattle.zone.specs.Intervals.{within}
use Rattle.zone.specs.Refusals.{answered}
use Rattle.zone.specs.Rows.{window_rows}
use Rattle.cutting.specs.Cutting.{cut}
use Rattle.provider.specs.declared.requests.Request.{Request}
use Rattle.provider.specs.Fetching.{unchanged, fresh, fetched}
use Rattle.provider.specs.Meaning.{Page, Meaning}

-- the page from which a fetch answered: that of the turn's edition, in the record
pub record Answering (m : Meaning) (q : Request) (e : ℕ) (p : Page) : Type 0 where
  pub inside : within q.interval m.span ≡ true
  pub turn : m.turn q.name q.interval ≡ e
  pub some : 1 ≤ e
  pub page : m.pages e q.name ≡ Some p
  pub small : length (cut p.rows q.interval) ≤ window_rows

-- an answer comes from the record's page at the edition that it names: a fresh one is its cut, an unchanged one has its tag
pub record AnswersComeFromPages : Type 0 where
  pub from_unchanged : (m : Meaning) (q : Request) (e : ℕ) → fetched m q ≡ answered (unchanged e) → (p : Page) × Answering m q e p × (p.tag ≡ q.known)
  pub from_fresh : (m : Meaning) (q : Request) (e g : ℕ) (rows : List Row) → fetched m q ≡ answered (fresh e g rows) → (p : Page) × Answering m q e p × (p.tag ≡ g) × (rows ≡ cut p.rows q.interval)
