-- What a relay keeps after a fetch is from the record. Assumes nothing.
use Rattle.std.proofs.Common.{◌≡◌, ℕ, zero, suc, ◌<◌, ◌≤◌, max, Bool, true, false, cond, ltb, ◌⊎◌, List, [], ◌∷◌, get_or, set, Some, None, Ok, Err, Option, Result, sym, refl, ap, ◌∙◌, subst, inl, inr, arith}
use native.Mathlib.Nat.{max-eq_left, max-eq_right}
use Rattle.std.specs.Option.{option_map}
use Rattle.std.proofs.lemmas.Bool.{cases_lt}
use Rattle.names.specs.declared.name.Name.{Name}
use Rattle.zone.specs.declared.refusals.Refusal.{Refusal}
use Rattle.zone.specs.declared.rows.Interval.{Interval}
use Rattle.zone.specs.declared.rows.Row.{Row}
use Rattle.zone.specs.declared.windows.Window.{Window}
use Rattle.zone.specs.Intervals.{within}
use Rattle.zone.specs.Refusals.{answered}
use Rattle.cutting.specs.Cutting.{cut}
use Rattle.provider.specs.declared.requests.Reply.{Reply}
use Rattle.provider.specs.declared.requests.Reply.TheVariants.{Unchanged, Fresh}
use Rattle.provider.specs.declared.requests.Request.{Request}
use Rattle.provider.specs.Fetching.{unchanged, fetched, judged, Leaves}
use Rattle.provider.specs.Holding.{FromPage}
use Rattle.provider.specs.Meaning.{Meaning, Page, Sound}
use Rattle.provider.proofs.Checks.{Passes, answers_come_from_pages}
use Rattle.kept.specs.declared.steps.Step.{Step}
use Rattle.kept.specs.declared.steps.Step.TheVariants.{PassOn, Serve, Renew, Take}
use Rattle.kept.specs.Keeping.{Kept, from_edition, kept_for, may_replace, place_for, place_of, serving, with_page}
use Rattle.kept.specs.Stepping.{is_older, kept_after, kept_by, known_by, page_in, sent, step}
use Rattle.kept.proofs.Finding.{kept_named, serving_parts}
use Rattle.relay.specs.Relaying.{AllFrom, KeptFrom}
use Rattle.relay.proofs.Served.{from}

-- one place changes
set_from : (m : Meaning) (ps : List (Option Kept)) (i : ℕ) (x : Option Kept) → KeptFrom m x → AllFrom m ps → (j : ℕ) → KeptFrom m (get_or (set ps i x) j None)
set_from m [] i x h all j = all j
set_from m (p ∷ ps) zero x h all zero = h
set_from m (p ∷ ps) zero x h all (suc j) = all (suc j)
set_from m (p ∷ ps) (suc i) x h all zero = all 0
set_from m (p ∷ ps) (suc i) x h all (suc j) = set_from m ps i x h (λ l. all (suc l)) j

pub with_from : (m : Meaning) (ps : List (Option Kept)) (o : Option ℕ) (x : Option Kept) → KeptFrom m x → AllFrom m ps → AllFrom m (with_page ps o x)
with_from m ps None x h all = all
with_from m ps (Some i) x h all = set_from m ps i x h all

module _ (m : Meaning) (sound : Sound m) (ps : List (Option Kept)) (all : AllFrom m ps) (q : Request) (pass : Passes q m.span) where
  -- a fresh window holds the record's page
  taken_from : (e t : ℕ) (w : Window) (p : Page) → m.pages e q.name ≡ Some p → p.tag ≡ t → w.rows.items ≡ cut p.rows q.interval → w.interval ≡ q.interval → AllFrom m (kept_by ps q w (Take e t))
  taken_from e t w p page tag rows is = by (may_replace e (kept_for ps q.name))
    where
      page_from : FromPage m q.name e t w.interval (w.rows.items)
      page_from = record {
        page = p;
        paged = page;
        tagged = tag;
        is_cut = rows ∙ ap (cut p.rows) (sym is);
        inside = subst (λ (x : Interval). within x m.span ≡ true) (sym is) pass.inside;
      }

      by : (b : Bool) → AllFrom m (cond b (with_page ps (place_for ps q.name) (Some (page_in q e t w))) ps)
      by true = with_from m ps (place_for ps q.name) (Some (page_in q e t w)) page_from all
      by false = all

  -- with no page kept over the interval
  beside_stays : (r : Result Reply Refusal) (w lent : Window) → judged r w ≡ fetched m q → Leaves r q.interval lent w → AllFrom m (kept_by ps q w (step None r))
  beside_stays (Err r) w lent h l = all
  beside_stays (Ok (Unchanged e)) w lent h l = all
  beside_stays (Ok (Fresh e t)) w lent h l =
      let a = answers_come_from_pages.from_fresh m q e t (w.rows.items) (sym h) in
      taken_from e t w a.0 a.1.page a.2 a.3 l

  -- with a page kept over it
  module _ (k : Kept) (is : serving ps q.name q.interval ≡ Some k) where
    -- the request that is sent
    abbrev asked : Request
    asked = known_by (Some k) q

    mine : FromPage m q.name k.edition k.tag k.interval k.rows
    mine = from m sound ps all q pass k is

    -- the page that is kept is that of a later edition with the same tag
    newer : (e : ℕ) (p : Page) → m.pages e q.name ≡ Some p → p.tag ≡ k.tag → FromPage m q.name e k.tag k.interval k.rows
    newer e p page tag =
        let same : mine.page.rows ≡ p.rows = sound.one_table k.edition e q.name mine.page p mine.paged page (mine.tagged ∙ sym tag) in
        record { page = p; paged = page; tagged = tag; is_cut = mine.is_cut ∙ ap (λ (x : List Row). cut x k.interval) same; inside = mine.inside }

    renewed_from : (e : ℕ) → fetched m asked ≡ answered (unchanged e) → FromPage m q.name (max k.edition e) k.tag k.interval k.rows
    renewed_from e h = by (cases_lt k.edition e)
      where
        at : (x : ℕ) → max k.edition e ≡ x → FromPage m q.name x k.tag k.interval k.rows → FromPage m q.name (max k.edition e) k.tag k.interval k.rows
        at x is f = subst (λ (y : ℕ). FromPage m q.name y k.tag k.interval k.rows) (sym is) f

        by : (k.edition < e) ⊎ (e ≤ k.edition) → FromPage m q.name (max k.edition e) k.tag k.interval k.rows
        by (inl l) =
            let a = answers_come_from_pages.from_unchanged m asked e h in
            at e (max-eq_right (omega arith)) (newer e a.0 a.1.page a.2)
        by (inr l) = at k.edition (max-eq_left l) mine

    renew_stays : (e : ℕ) → fetched m asked ≡ answered (unchanged e) → (w : Window) → AllFrom m (kept_by ps q w (Renew (max k.edition e)))
    renew_stays e h w =
        let there = (serving_parts q.interval (kept_for ps q.name) k is).0 in
        let own : FromPage m k.name (max k.edition e) k.tag k.interval k.rows = subst (λ (n : Name). FromPage m n (max k.edition e) k.tag k.interval k.rows) (sym (kept_named ps q.name k there)) (renewed_from e h) in
        with_from m ps (place_of ps q.name) (option_map (from_edition (max k.edition e)) (kept_for ps q.name)) (subst (λ (o : Option Kept). KeptFrom m (option_map (from_edition (max k.edition e)) o)) (sym there) own) all

    served : (b : Bool) (x : Step) (w : Window) → (b ≡ false → AllFrom m (kept_by ps q w x)) → AllFrom m (kept_by ps q w (cond b (Serve k.edition) x))
    served true x w f = all
    served false x w f = f refl

    above_stays : (r : Result Reply Refusal) (w lent : Window) → judged r w ≡ fetched m asked → Leaves r q.interval lent w → AllFrom m (kept_by ps q w (step (Some k) r))
    above_stays (Err r) w lent h l = served (is_older k.edition r) PassOn w (λ _. all)
    above_stays (Ok (Unchanged e)) w lent h l = renew_stays e (sym h) w
    above_stays (Ok (Fresh e t)) w lent h l =
        let a = answers_come_from_pages.from_fresh m asked e t (w.rows.items) (sym h) in
        served (ltb e k.edition) (Take e t) w (λ _. taken_from e t w a.0 a.1.page a.2 a.3 l)

  pub kept_stays : (r : Result Reply Refusal) (w lent : Window) → judged r w ≡ fetched m (sent ps q) → Leaves r (sent ps q).interval lent w → AllFrom m (kept_after ps q r w)
  kept_stays r w lent h l = by (serving ps q.name q.interval) refl h l
    where
      by : (o : Option Kept) → serving ps q.name q.interval ≡ o → judged r w ≡ fetched m (known_by o q) → Leaves r (known_by o q).interval lent w → AllFrom m (kept_by ps q w (step o r))
      by None is h l = beside_stays r w lent h l
      by (Some k) is h l = above_stays k is r w lent h l
