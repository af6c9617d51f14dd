-- What a relay answers is what the record says at its turn. Assumes nothing.
use Rattle.std.proofs.Common.{◌≡◌, ℕ, suc, ◌<◌, ◌≤◌, max, Bool, true, false, cond, eqb, ltb, ◌⊎◌, List, Some, None, Ok, Err, Option, Result, sym, refl, ap, ◌∙◌, subst, inl, inr, arith}
use native.Mathlib.Nat.{max-eq_left, max-eq_right}
use Rattle.std.proofs.lemmas.Bool.{cases_lt, leb-true, leb-false, or_left}
use Rattle.names.specs.declared.name.Name.{Name}
use Rattle.zone.specs.declared.refusals.Refusal.{Refusal}
use Rattle.zone.specs.declared.rows.Interval.{Interval}
use Rattle.zone.specs.declared.rows.Row.{Row}
use Rattle.zone.specs.declared.windows.Window.{Window}
use Rattle.zone.specs.Intervals.{within}
use Rattle.zone.specs.Refusals.{answered, refused, number, values}
use Rattle.cutting.specs.Cutting.{cut}
use Rattle.cutting.proofs.Clipping.{cuts_agree, within_itself}
use Rattle.provider.specs.declared.requests.Reply.{Reply}
use Rattle.provider.specs.declared.requests.Reply.TheVariants.{Unchanged, Fresh}
use Rattle.provider.specs.declared.requests.Request.{Request}
use Rattle.provider.specs.Fetching.{unchanged, fresh, turn_answer, fetched, judged, Leaves}
use Rattle.provider.specs.Holding.{FromPage}
use Rattle.provider.specs.Meaning.{Meaning, Page, Sound}
use Rattle.provider.proofs.Checks.{Passes, answers_come_from_pages}
use Rattle.provider.proofs.Held.{held_cut}
use Rattle.kept.specs.declared.steps.Step.TheVariants.{PassOn, Serve, Take}
use Rattle.kept.specs.Keeping.{Kept, kept_for, place_of, serving}
use Rattle.kept.specs.Stepping.{answer_after, answer_by, from_kept, from_window, is_older, known_by, sent, step, turn_over}
use Rattle.kept.proofs.Finding.{kept_named, serving_parts}
use Rattle.relay.specs.Relaying.{AllFrom, KeptFrom}
use Rattle.relay.specs.Over.{at_from, over}
use Rattle.relay.proofs.Turned.{RefusedBy, silent, edition, by_page, by_turn, older_is, refused_turn, same_answer}

module _ (m : Meaning) (sound : Sound m) (ps : List (Option Kept)) (all : AllFrom m ps) (q : Request) (pass : Passes q m.span) where
  -- the turn below
  abbrev turn : ℕ
  turn = m.turn q.name q.interval

  -- a fresh window over the interval answers as the turn's page
  takes : (e t : ℕ) (w : Window) (p : Page) → (over ps m).turn q.name q.interval ≡ e → m.pages e q.name ≡ Some p → p.tag ≡ t → w.rows.items ≡ cut p.rows q.interval → w.interval ≡ q.interval → from_window e t q w ≡ fetched (over ps m) q
  takes e t w p at page tag rows is =
      let self = within_itself q.interval m.span pass.inside in
      let paged = sound.paged e q.name p page in
      let inside : within q.interval w.interval ≡ true = subst (λ (x : Interval). within q.interval x ≡ true) (sym is) self in
      let again : cut (w.rows.items) q.interval ≡ cut p.rows q.interval = ap (λ (x : List Row). cut x q.interval) rows ∙ (cuts_agree m.span p.rows q.interval paged.covers pass.inside).again q.interval self in
      same_answer w.interval e q t (w.rows.items) p inside tag again ∙ sym (by_page (over ps m) q e p pass at paged.some page)

  -- with no page kept over the interval, the answer is that of below
  beside : (r : Result Reply Refusal) (w lent : Window) → serving ps q.name q.interval ≡ None → judged r w ≡ fetched m q → Leaves r q.interval lent w → answer_by ps q r w (step None r) ≡ fetched (over ps m) q
  beside r w lent is h l = by r h l
    where
      turn_is : (over ps m).turn q.name q.interval ≡ turn
      turn_is = ap (λ (o : Option Kept). turn_over o turn) is

      same : fetched m q ≡ fetched (over ps m) q
      same = by_turn m q turn pass refl ∙ sym (by_turn (over ps m) q turn pass turn_is)

      by : (r : Result Reply Refusal) → judged r w ≡ fetched m q → Leaves r q.interval lent w → answer_by ps q r w (step None r) ≡ fetched (over ps m) q
      by (Err r) h l = h ∙ same
      by (Ok (Unchanged e)) h l = h ∙ same
      by (Ok (Fresh e t)) h l =
          let a = answers_come_from_pages.from_fresh m q e t (w.rows.items) (sym h) in
          takes e t w a.0 (turn_is ∙ a.1.turn) a.1.page a.2 a.3 l

  -- with a page kept over it
  module _ (k : Kept) (is : serving ps q.name q.interval ≡ Some k) where
    -- the request that is sent
    abbrev asked : Request
    asked = known_by (Some k) q

    there : (kept_for ps q.name ≡ Some k) × (within q.interval k.interval ≡ true)
    there = serving_parts q.interval (kept_for ps q.name) k is

    pub from : FromPage m q.name k.edition k.tag k.interval k.rows
    from = subst (λ (n : Name). FromPage m n k.edition k.tag k.interval k.rows) (kept_named ps q.name k there.0) (subst (KeptFrom m) there.0 (at_from m ps (place_of ps q.name) all))

    turn_is : (over ps m).turn q.name q.interval ≡ max k.edition turn
    turn_is = ap (λ (o : Option Kept). turn_over o turn) is

    -- the page that is kept answers as that of the turn, where that has its tag
    serves : (e : ℕ) (p : Page) → max k.edition turn ≡ e → m.pages e q.name ≡ Some p → p.tag ≡ k.tag → from_kept e q (kept_for ps q.name) ≡ fetched (over ps m) q
    serves e p at page tag =
        ap (from_kept e q) there.0 ∙ same_answer k.interval e q k.tag k.rows p there.1 tag (held_cut m q.name k.edition k.tag k.interval k.rows e p q.interval sound from page tag there.1) ∙ sym (by_page (over ps m) q e p pass (turn_is ∙ at) (sound.paged e q.name p page).some page)

    -- it is the turn's page where the turn below is no newer
    serves_own : turn ≤ k.edition → from_kept k.edition q (kept_for ps q.name) ≡ fetched (over ps m) q
    serves_own l = serves k.edition from.page (max-eq_left l) from.paged from.tagged

    above_unchanged : (e : ℕ) → fetched m asked ≡ answered (unchanged e) → from_kept (max k.edition e) q (kept_for ps q.name) ≡ fetched (over ps m) q
    above_unchanged e h = by (cases_lt k.edition e)
      where
        by : (k.edition < e) ⊎ (e ≤ k.edition) → from_kept (max k.edition e) q (kept_for ps q.name) ≡ fetched (over ps m) q
        by (inl l) =
            let a = answers_come_from_pages.from_unchanged m asked e h in
            let most : max k.edition e ≡ e = max-eq_right (omega arith) in
            serves (max k.edition e) a.0 (ap (max k.edition) a.1.turn) (ap (λ x. m.pages x q.name) most ∙ a.1.page) a.2
        by (inr l) =
            let a = answers_come_from_pages.from_unchanged m asked e h in
            serves (max k.edition e) from.page (ap (max k.edition) a.1.turn) (ap (λ x. m.pages x q.name) (max-eq_left l) ∙ from.paged) from.tagged

    above_fresh : (e t : ℕ) (w : Window) (b : Bool) → ltb e k.edition ≡ b → fetched m asked ≡ answered (fresh e t (w.rows.items)) → w.interval ≡ q.interval → answer_by ps q (Ok (Fresh e t)) w (cond b (Serve k.edition) (Take e t)) ≡ fetched (over ps m) q
    above_fresh e t w true b h l =
        let a = answers_come_from_pages.from_fresh m asked e t (w.rows.items) h in
        let less = leb-true (suc e) k.edition b in
        serves_own (omega (arith, a.1.turn, less))
    above_fresh e t w false b h l =
        let a = answers_come_from_pages.from_fresh m asked e t (w.rows.items) h in
        let more = leb-false (suc e) k.edition b in
        let most : max k.edition e ≡ e = max-eq_right (omega (arith, more)) in
        takes e t w a.0 (turn_is ∙ ap (max k.edition) a.1.turn ∙ most) a.1.page a.2 a.3 l

    above_refused : (r : Refusal) (w : Window) → refused (number r) (values r) ≡ fetched m asked → answer_by ps q (Err r) w (step (Some k) (Err r)) ≡ fetched (over ps m) q
    above_refused r w h = by (refused_turn q k.tag turn (number r) (values r) (m.pages turn q.name) (h ∙ by_turn m asked turn (record { name = pass.name; era = pass.era; inside = pass.inside }) refl))
      where
        -- which way the step goes
        goes : (b : Bool) → is_older k.edition r ≡ b → answer_by ps q (Err r) w (step (Some k) (Err r)) ≡ answer_by ps q (Err r) w (cond b (Serve k.edition) PassOn)
        goes b e = ap (λ (x : Bool). answer_by ps q (Err r) w (cond x (Serve k.edition) PassOn)) e

        by_edition : (b : Bool) → ltb turn k.edition ≡ b → turn_answer turn q (m.pages turn q.name) ≡ refused (number r) (values r) → answer_by ps q (Err r) w (cond b (Serve k.edition) PassOn) ≡ fetched (over ps m) q
        by_edition true b next = let less = leb-true (suc turn) k.edition b in serves_own (omega (arith, less))
        by_edition false b next =
            let more = leb-false (suc turn) k.edition b in
            let most : max k.edition turn ≡ turn = max-eq_right (omega (arith, more)) in
            sym (by_turn (over ps m) q turn pass (turn_is ∙ most) ∙ next)

        by : RefusedBy turn (number r) (values r) (turn_answer turn q (m.pages turn q.name)) → answer_by ps q (Err r) w (step (Some k) (Err r)) ≡ fetched (over ps m) q
        by (silent four none) = goes true (or_left (eqb (number r) 4) _ (ap (λ x. eqb x 4) four)) ∙ serves_own (omega (arith, none))
        by (edition which v next) = goes (ltb turn k.edition) (older_is k.edition (number r) turn (values r) which v) ∙ by_edition (ltb turn k.edition) refl next

    above : (r : Result Reply Refusal) (w lent : Window) → judged r w ≡ fetched m asked → Leaves r q.interval lent w → answer_by ps q r w (step (Some k) r) ≡ fetched (over ps m) q
    above (Err r) w lent h l = above_refused r w h
    above (Ok (Unchanged e)) w lent h l = above_unchanged e (sym h)
    above (Ok (Fresh e t)) w lent h l = above_fresh e t w (ltb e k.edition) refl (sym h) l

  pub answer_told : (r : Result Reply Refusal) (w lent : Window) → judged r w ≡ fetched m (sent ps q) → Leaves r (sent ps q).interval lent w → answer_after ps q r w ≡ fetched (over ps m) q
  answer_told r w lent h l = by (serving ps q.name q.interval) refl h l
    where
      by : (o : Option Kept) → serving ps q.name q.interval ≡ o → judged r w ≡ fetched m (known_by o q) → Leaves r (known_by o q).interval lent w → answer_by ps q r w (step o r) ≡ fetched (over ps m) q
      by None is h l = beside r w lent is h l
      by (Some k) is h l = above k is r w lent h l
