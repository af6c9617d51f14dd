-- What every layer needs of a fetch that is refused or lost. Assumes nothing.
use Rattle.std.proofs.Common.{◌≡◌, ℕ, Bool, true, false, ◌&&◌, List, [], Err, MatchBool, Result, sym, refl, ap, ◌∙◌, subst, arith}
use Rattle.std.proofs.lemmas.Bool.{and_from, and_parts}
use Rattle.zone.specs.declared.refusals.Refusal.{Refusal}
use Rattle.zone.specs.declared.refusals.Refusal.TheVariants.{Silent}
use Rattle.zone.specs.declared.rows.Interval.{Interval}
use Rattle.zone.specs.declared.windows.Window.{Window}
use Rattle.zone.specs.Intervals.{era, within}
use Rattle.names.specs.Names.{is_name}
use Rattle.zone.specs.Refusals.{Outcome, answered, refused, outcome, number, values}
use Rattle.provider.specs.declared.requests.Reply.{Reply}
use Rattle.provider.specs.declared.requests.Request.{Request}
use Rattle.provider.specs.Fetching.{checked, passes, fetched, judged, Fetched, Leaves, Untouched}
use Rattle.provider.specs.Meaning.{Meaning, Keeps}
use Rattle.provider.proofs.Checks.{Passes, checked_next, checked_refused}

-- what is as it was keeps all
pub keeps_all : (m : Meaning) → Keeps m m
keeps_all m = record { span = refl; grows = omega arith; same = λ e n h. refl }

-- the three checks as one test
pub passes_yes : (q : Request) (span : Interval) → Passes q span → passes q span ≡ true
passes_yes q span p = and_from (is_name q.name.bytes) (within q.interval era && within q.interval span) p.name (and_from (within q.interval era) (within q.interval span) p.era p.inside)

pub passes_parts : (q : Request) (span : Interval) → passes q span ≡ true → Passes q span
passes_parts q span h =
    let a = and_parts (is_name q.name.bytes) (within q.interval era && within q.interval span) h in
    let b = and_parts (within q.interval era) (within q.interval span) a.1 in
    record { name = a.0; era = b.0; inside = b.1 }

-- what is refused did not pass
pub passes_no : (q : Request) (span : Interval) (n : ℕ) (vs : List ℕ) → ◌≡◌ {A = Outcome (Unit {0})} (refused n vs) (checked q span (answered tt)) → passes q span ≡ false
passes_no q span n vs h = by (passes q span) refl
  where
    by : (b : Bool) → passes q span ≡ b → b ≡ false
    by true e =
        let k = checked_next {X = Unit {0}} q span (answered tt) (passes_parts q span e) in
        let z : ◌≡◌ {A = ℕ} 0 1 = cc in
        absurd (omega arith)
    by false e = refl

-- a fetch that the checks refuse, by a provider that stays as it was
pub refused_fetch : (m : Meaning) (in_order : Type 0) (q : Request) (w : Window) (e : Refusal) → in_order → ◌≡◌ {A = Outcome (Unit {0})} (outcome (Err e)) (checked q m.span (answered tt)) → Fetched m m in_order q w w (Err e)
refused_fetch m in_order q w e o h = record {
  order = o;
  keeps = keeps_all m;
  count = refl;
  told = checked_refused q m.span _ (number e) (values e) h;
  leaves = (refl, refl);
}

-- silence, with the lent window as it was
pub silence : (m m' : Meaning) (in_order : Type 0) (q : Request) (before after : Window) (r : Result Reply Refusal) → fetched m q ≡ refused 4 [] → r ≡ Err Silent → Untouched before after → in_order → Keeps m m' → m'.count ≡ m.count → Fetched m m' in_order q before after r
silence m m' in_order q before after r h e u o k c = record {
  order = o;
  keeps = k;
  count = c;
  told = ap (λ x. judged x after) e ∙ sym h;
  leaves = subst (λ (x : Result Reply Refusal). Leaves x q.interval before after) (sym e) u;
}

-- which of the two holds
pub when_yes : (P Q : Type 0) (b : Bool) → b ≡ true → P → MatchBool b P Q
when_yes P Q b e p = subst (λ (x : Bool). MatchBool x P Q) (sym e) p

pub when_no : (P Q : Type 0) (b : Bool) → b ≡ false → Q → MatchBool b P Q
when_no P Q b e q = subst (λ (x : Bool). MatchBool x P Q) (sym e) q
