-- What a reader of an archive may rely on, told of calls and their outcomes alone. Assumes nothing.
use Rattle.std.specs.Prelude.{◌≡◌, ℕ, ◌≤◌, Bool, true, false, cond, ◌↔◌, List, [], ◌∷◌, length, ℤ, Some, None, Option}
use Rattle.std.specs.Option.{option_map}
use Rattle.names.specs.declared.name.Name.{Name}
use Rattle.names.specs.Comparing.{same_name}
use Rattle.zone.specs.declared.rows.Interval.{Interval}
use Rattle.zone.specs.Intervals.{has_instant}
use Rattle.zone.specs.Rows.{window_rows}
use Rattle.cutting.specs.declared.locals.Local.{Local}
use Rattle.cutting.specs.Cutting.{cut, local}
use Rattle.provider.specs.Meaning.{Meaning, Page}
use Rattle.history.specs.Histories.{Source, Moment, History, calls_of, reports_of, end_of, Each, SomeMoment, Linked, OutcomesAsDefined}
use Rattle.history.specs.Steps.{Call, begin, collect, abandon, forget, query, publish, Report, began, collected, abandoned, forgotten, told, announced, declined, handed_back, not_pending}

-- the zone that a call is about
abbrev pub zone_of : Call → Name
zone_of (begin n i) = n
zone_of (collect n) = n
zone_of (abandon n) = n
zone_of (forget n) = n
zone_of (query n t) = n
zone_of (publish n t) = n

-- the edition that an outcome names: that of an accepted collect or of an answered query
abbrev pub edition_in : Report → Option ℕ
edition_in (began k i) = None
edition_in (collected e) = Some e
edition_in abandoned = None
edition_in forgotten = None
edition_in (told e l) = Some e
edition_in (announced e) = None
edition_in (declined n vs) = None
edition_in (handed_back n vs k i) = None
edition_in not_pending = None

-- the zone's pending fetch after an outcome: a begin makes one, an accepted collect or an abandon ends it
abbrev pub pending_by : Report → Option Interval → Option Interval
pending_by (began k i) was = Some i
pending_by (collected e) was = None
pending_by abandoned was = None
pending_by forgotten was = was
pending_by (told e l) was = was
pending_by (announced e) was = was
pending_by (declined n vs) was = was
pending_by (handed_back n vs k i) was = was
pending_by not_pending was = was

-- an accepted collect: its edition, and the interval of the begin that it ended
pub record Accepted : Type 0 where
  pub edition : ℕ
  pub interval : Interval

abbrev pub over : ℕ → Option Interval → Option Accepted
over e = option_map (λ i. record { edition = e; interval = i })

-- the zone's latest accepted collect after an outcome, where `i` was its pending fetch
abbrev pub latest_by : Report → Option Interval → Option Accepted → Option Accepted
latest_by (began k i) pending was = was
latest_by (collected e) pending was = over e pending
latest_by abandoned pending was = was
latest_by forgotten pending was = was
latest_by (told e l) pending was = was
latest_by (announced e) pending was = was
latest_by (declined n vs) pending was = was
latest_by (handed_back n vs k i) pending was = was
latest_by not_pending pending was = was

-- the same since the zone's last accepted forget
abbrev pub held_by : Report → Option Interval → Option Accepted → Option Accepted
held_by (began k i) pending was = was
held_by (collected e) pending was = over e pending
held_by abandoned pending was = was
held_by forgotten pending was = None
held_by (told e l) pending was = was
held_by (announced e) pending was = was
held_by (declined n vs) pending was = was
held_by (handed_back n vs k i) pending was = was
held_by not_pending pending was = was

-- an outcome is a refusal
abbrev pub is_refusal : Report → Bool
is_refusal (began k i) = false
is_refusal (collected e) = false
is_refusal abandoned = false
is_refusal forgotten = false
is_refusal (told e l) = false
is_refusal (announced e) = false
is_refusal (declined n vs) = true
is_refusal (handed_back n vs k i) = true
is_refusal not_pending = false

module _ {S : Type 0} where
  -- the moment is about the zone
  abbrev pub about : Name → Moment S → Bool
  about n x = same_name (zone_of x.call) n

  -- the zone's pending fetch, its latest accepted collect, and the latest since its last accepted forget
  abbrev pub pending_in : History S → Name → Option Interval
  pending_in [] n = None
  pending_in (x ∷ past) n = cond (about n x) (pending_by x.report (pending_in past n)) (pending_in past n)

  abbrev pub latest_in : History S → Name → Option Accepted
  latest_in [] n = None
  latest_in (x ∷ past) n = cond (about n x) (latest_by x.report (pending_in past n) (latest_in past n)) (latest_in past n)

  abbrev pub held_in : History S → Name → Option Accepted
  held_in [] n = None
  held_in (x ∷ past) n = cond (about n x) (held_by x.report (pending_in past n) (held_in past n)) (held_in past n)

  -- the moment names the edition for the zone; it accepts the edition for some zone
  abbrev pub Names : Name → ℕ → Moment S → Type 0
  Names n e x = (about n x ≡ true) × (edition_in x.report ≡ Some e)

  abbrev pub Accepts : ℕ → Moment S → Type 0
  Accepts e x = x.report ≡ collected e

-- by the zone's page at the edition, the record gives this local time at t
abbrev pub Gives : Meaning → Name → ℕ → ℤ → Local → Type 0
Gives m n e t l = (p : Page) × (m.pages e n ≡ Some p) × (local p.rows t ≡ l)

module _ {S : Type 0} (src : Source S) where
  -- An answered query names the edition of its zone's latest accepted collect, and the record gives that time for the zone, the
  -- instant and the edition: just before the query, and at the history's end.
  abbrev pub AnswersStand : S → History S → Type 0
  AnswersStand end = Each (λ x past. (n : Name) (t : ℤ) (e : ℕ) (l : Local) → x.call ≡ query n t → x.report ≡ told e l →
      ((i : Interval) × (latest_in past n ≡ Some (record { edition = e; interval = i }))) × Gives (src.meaning x.before) n e t l × Gives (src.meaning end) n e t l)

  -- Of two editions named for one zone the later is no lower, forgotten in between or not.
  abbrev pub EditionsNeverFall : History S → Type 0
  EditionsNeverFall = Each (λ x past. (n : Name) (e f : ℕ) → Names n e x → SomeMoment (Names n f) past → f ≤ e)

  -- the zone had no accepted collect since its last accepted forget, or the instant lay outside the interval of the latest
  abbrev pub Unheld : Option Accepted → ℤ → Type 0
  Unheld None t = Unit {0}
  Unheld (Some a) t = has_instant a.interval t ≡ false

  -- A query is refused exactly then.
  abbrev pub RefusedExactlyWhen : History S → Type 0
  RefusedExactlyWhen = Each (λ x past. (n : Name) (t : ℤ) → x.call ≡ query n t → (is_refusal x.report ≡ true) ↔ Unheld (held_in past n) t)

  -- the turn for the zone and the interval is an edition, no lower than any accepted before, at which the record gives the zone
  -- rows for the interval, no more than a window holds
  pub record Due (x : Moment S) (past : History S) (n : Name) (i : Interval) (e : ℕ) : Type 0 where
    pub pending : pending_in past n ≡ Some i
    pub turn : (src.meaning x.before).turn n i ≡ e
    pub some : 1 ≤ e
    pub not_below : (f : ℕ) → SomeMoment (Accepts f) past → f ≤ e
    pub page : (p : Page) × ((src.meaning x.before).pages e n ≡ Some p) × (length (cut p.rows i) ≤ window_rows)

  -- A collect is accepted, with an edition, exactly then.
  abbrev pub AcceptedExactlyWhen : History S → Type 0
  AcceptedExactlyWhen = Each (λ x past. (n : Name) (e : ℕ) → x.call ≡ collect n → (x.report ≡ collected e) ↔ ((i : Interval) × Due x past n i e))

  -- all of this together
  pub record Stands (first : S) (h : History S) : Type 0 where
    pub outcomes : OutcomesAsDefined src h
    pub answers : AnswersStand (end_of first h) h
    pub editions : EditionsNeverFall h
    pub refused : RefusedExactlyWhen h
    pub accepted : AcceptedExactlyWhen h

-- Every history of a new client over the provider, whose moments are linked and whose outcomes are the defined ones, stands.
abbrev pub HistoriesStand : {S : Type 0} → Source S → S → Type 0
HistoriesStand {S} src first = (h : History S) → Linked src first h → OutcomesAsDefined src h → Stands src first h

-- calls that were made on a new client over the provider, and what they came to: there is a history with these calls and
-- outcomes, from the provider's state at first to the one at last, and it stands
pub record Replayed {S : Type 0} (src : Source S) (first last : S) (calls : List Call) (reports : List Report) : Type 0 where
  pub history : History S
  pub called : calls_of history ≡ calls
  pub reported : reports_of history ≡ reports
  pub linked : Linked src first history
  pub ended : end_of first history ≡ last
  pub stands : Stands src first history
