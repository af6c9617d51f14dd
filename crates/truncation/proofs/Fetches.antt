-- Fetches and publications of a truncation come to those below. Assumes nothing.
use Rattle.std.specs.Prelude.{◌≡◌, ℕ, Bool, true, cond, [], ◌∷◌, length, Some, None, Ok, vec_items, Option, Result, ◌==◌, nat_le, refl}
use Rattle.std.proofs.Common.{sym, ap, ◌∙◌}
use Rattle.names.specs.declared.name.Name.{Name}
use Rattle.zone.specs.declared.refusals.Refusal.{Refusal}
use Rattle.zone.specs.declared.rows.Interval.{Interval}
use Rattle.zone.specs.declared.windows.Table.{Table}
use Rattle.zone.specs.declared.windows.Window.{Window}
use Rattle.zone.specs.Intervals.{era, within}
use Rattle.names.specs.Names.{is_name}
use Rattle.zone.specs.Rows.{Covers, window_rows}
use Rattle.zone.specs.Refusals.{answered, refused}
use Rattle.zone.specs.Tables.{is_era_table}
use Rattle.zone.proofs.Testing.{decides_era_table}
use Rattle.cutting.specs.Cutting.{cut}
use Rattle.cutting.proofs.Clipping.{cuts_agree, within_trans}
use Rattle.provider.specs.declared.requests.Reply.{Reply}
use Rattle.provider.specs.declared.requests.Request.{Request}
use Rattle.provider.specs.Fetching.{page_answer, turn_answer, unchanged, fresh, fetched, Fetched}
use Rattle.provider.specs.Meaning.{Page, Meaning, Keeps, Sound}
use Rattle.provider.specs.Publishing.{Next, published, Published}
use Rattle.provider.proofs.Checks.{Passes, checked_next, passed}
use Rattle.truncation.specs.Truncating.{cut_page}
use Rattle.truncation.specs.Meanings.{cut_to, truncated}

-- what a page answers, its cut to the span answers
cut_answers : (of span : Interval) (e : ℕ) (q : Request) (p : Page) → Covers of p.rows → within span of ≡ true → within q.interval span ≡ true → page_answer e q (cut_to span p) ≡ page_answer e q p
cut_answers of span e q p c w i =
    ap (λ rows. cond (nat_le (length rows) window_rows) (cond (p.tag == q.known) (answered (unchanged e)) (answered (fresh e p.tag rows))) (refused 6 (e ∷ []))) ((cuts_agree of p.rows span c w).again q.interval i)

-- what keeps the record below keeps its cuts
pub truncated_keeps : (m m' : Meaning) (span : Interval) → Keeps m m' → Keeps (truncated m span) (truncated m' span)
truncated_keeps m m' span k = record { span = refl; grows = k.grows; same = λ e n h. ap (cut_page span) (k.same e n h) }

module _ (m : Meaning) (span : Interval) (sound : Sound m) (inside : within span m.span ≡ true) where
  turns : (e : ℕ) (q : Request) (o : Option Page) → m.pages e q.name ≡ o → within q.interval span ≡ true → turn_answer e q (cut_page span o) ≡ turn_answer e q o
  turns e q None h i = refl
  turns e q (Some p) h i = ap (λ x. cond (e == 0) (refused 4 []) x) (cut_answers m.span span e q p (sound.paged e q.name p h).covers inside i)

  -- a request that passes the checks is answered as below
  pub truncated_fetch : (q : Request) → Passes q span → fetched m q ≡ fetched (truncated m span) q
  truncated_fetch q p =
      let e = m.turn q.name q.interval in
      let below : Passes q m.span = record { name = p.name; era = p.era; inside = within_trans q.interval span m.span p.inside inside } in
      checked_next q m.span _ below ∙ sym (turns e q (m.pages e q.name) refl p.inside) ∙ sym (checked_next q span _ p)

  -- a fetch that passes the checks and goes below
  pub truncated_fetched : {o : Type 0} {m' : Meaning} {q : Request} {before after : Window} {r : Result Reply Refusal} → Passes q span → Fetched m m' o q before after r → Fetched (truncated m span) (truncated m' span) (o × (within span m'.span ≡ true)) q before after r
  truncated_fetched {o} {m'} {q} p f = record {
    order = (f.order, ap (within span) f.keeps.span ∙ inside);
    keeps = truncated_keeps m m' span f.keeps;
    count = f.count;
    told = f.told ∙ truncated_fetch q p;
    leaves = f.leaves;
  }

  -- the next edition below is the next of the truncation
  pub truncated_next : (m' : Meaning) (n : Name) (t : Table) → Covers era (vec_items t.rows) → Next m m' n t → Next (truncated m span) (truncated m' span) n t
  truncated_next m' n t c x = record {
    keeps = truncated_keeps m m' span x.keeps;
    count = x.count;
    page = (cut_to span x.page.0, ap (cut_page span) x.page.1, ap (λ rows. cut rows span) x.page.2 ∙ (cuts_agree era (vec_items t.rows) m.span c sound.in_era).again span inside);
    others = λ o d. ap (cut_page span) (x.others o d);
  }

  -- an accepted publication is of a table over the era
  accepted : (fits : ℕ → Bool) (n : Name) (t : Table) (e : ℕ) → answered e ≡ published m fits n t → Covers era (vec_items t.rows)
  accepted fits n t e h =
      let a = passed (is_name n.bytes) _ 1 [] e (sym h) in
      let b = passed (is_era_table t.interval (vec_items t.rows)) _ 13 [] e a.1 in
      ((decides_era_table t.interval (vec_items t.rows)).0 b.0).1.covers

  -- a publication that is accepted below
  pub truncated_published : {S R : Type 0} {o : Type 0} {m' : Meaning} {fits : ℕ → Bool} {n : Name} {t : Table} {before after : S} {e : ℕ} → Published m m' o fits n t before after (Ok e) → {x y : R} → Published (truncated m span) (truncated m' span) (o × (within span m'.span ≡ true)) fits n t x y (Ok e)
  truncated_published {S} {R} {o} {m'} {fits} {n} {t} {before} {after} {e} p = record {
    order = (p.order, ap (within span) p.brings.keeps.span ∙ inside);
    told = p.told;
    brings = truncated_next m' n t (accepted fits n t e p.told) p.brings;
  }
