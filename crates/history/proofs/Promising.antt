-- The promises, kept by every history. Assumes nothing.
use Rattle.std.proofs.Common.{◌≡◌, ℕ, ◌≤◌, true, false, ◌⊎◌, ◌↔◌, List, [], ◌∷◌, ℤ, Some, None, Option, sym, refl, ap, ◌∙◌, subst, inl, inr, arith}
use Rattle.std.specs.Option.{option_map}
use Rattle.names.specs.declared.name.Name.{Name}
use Rattle.zone.specs.declared.rows.Interval.{Interval}
use Rattle.zone.specs.declared.rows.Row.{Row}
use Rattle.names.specs.Names.{is_name}
use Rattle.cutting.specs.declared.locals.Local.{Local}
use Rattle.cutting.specs.Cutting.{cut, local}
use Rattle.cutting.proofs.Clipping.{cuts_agree}
use Rattle.provider.specs.Meaning.{Meaning, Sound, Keeps}
use Rattle.history.specs.Cells.{Copy, State}
use Rattle.history.specs.Histories.{Source, Moment, History, end_of, SomeMoment, client_after, OutcomesAsDefined, Link, Linked}
use Rattle.history.specs.Promises.{Accepted, Accepts, zone_of, is_refusal, latest_in, held_in, Gives, AnswersStand, Unheld, Due, Stands, HistoriesStand}
use Rattle.history.specs.Steps.{Call, collect, query, Report, collected, told, step, collect_step, query_step}
use Rattle.history.proofs.Places.{not_both, owned}
use Rattle.history.proofs.Standing.{seen, IfSome, Kept, Good, Tracks, Moved}
use Rattle.history.proofs.Moving.{moved}
use Rattle.history.proofs.Telling.{ToldFrom, query_told, query_refused, Ready, collect_exact}
use Rattle.history.proofs.Tracking.{page_on, tracks_none, tracks_on, editions_rise}

-- what the record gave it goes on to give
gives_on : (m m' : Meaning) → Sound m → Keeps m m' → (n : Name) (e : ℕ) (t : ℤ) (l : Local) → Gives m n e t l → Gives m' n e t l
gives_on m m' s k n e t l g = (g.0, page_on m m' e n g.0 s k g.1, g.2)

-- a zone whose name is none holds nothing
no_copy : (m : Meaning) (floor : ℕ) (n : Name) (o : Option Copy) → IfSome (Kept m floor n) o → is_name n.bytes ≡ false → o ≡ None
no_copy m floor n None h q = refl
no_copy m floor n (Some c) h q = not_both (is_name n.bytes) h.wanted.name q

-- what a query is told is what the record gives
told_given : (m : Meaning) (s : State) (n : Name) (t : ℤ) (e : ℕ) (l : Local) → Sound m → Good m s.floor n (owned s.cells n) → ToldFrom s n t e l → Gives m n e t l
told_given m s n t e l sound good from =
    let c = from.copy in
    let kept : Kept m s.floor n c = subst (IfSome (Kept m s.floor n)) from.held good.kept in
    let p = kept.page in
    let same : local (cut p.rows c.interval) t ≡ local p.rows t = (cuts_agree m.span p.rows c.interval (sound.paged c.edition n p kept.paged).covers kept.wanted.inside).same t from.inside in
    (p, subst (λ (k : ℕ). m.pages k n ≡ Some p) from.edition kept.paged, sym same ∙ ap (λ (rs : List Row). local rs t) (sym kept.rows) ∙ from.time)

module _ {S : Type 0} (src : Source S) where
  -- the answers so far, where the provider has moved on
  answers_on : (end end' : S) → ((n : Name) (e : ℕ) (t : ℤ) (l : Local) → Gives (src.meaning end) n e t l → Gives (src.meaning end') n e t l) → (h : History S) → AnswersStand src end h → AnswersStand src end' h
  answers_on end end' on [] all = tt
  answers_on end end' on (x ∷ past) all = (λ n t e l call report. let was = all.0 n t e l call report in (was.0, was.1, on n e t l was.2), answers_on end end' on past all.1)

  -- one moment, after a past that the client tells
  module _ (x : Moment S) (past : History S) (sound : Sound (src.meaning x.before)) (tracks : Tracks (src.meaning x.before) past (client_after src past)) (out : x.report ≡ (step (src.meaning x.before) (src.fits x.before) (client_after src past) x.call).report) where
    abbrev m : Meaning
    m = src.meaning x.before

    abbrev s : State
    s = client_after src past

    -- what the call came to, at a call that is known
    came : (call : Call) → x.call ≡ call → x.report ≡ (step m (src.fits x.before) s call).report
    came call q = out ∙ ap (λ (c : Call). (step m (src.fits x.before) s c).report) q

    moves : Moved m s (step m (src.fits x.before) s x.call).state (zone_of x.call) x.report
    moves = subst (Moved m s (step m (src.fits x.before) s x.call).state (zone_of x.call)) (sym out) (moved m (src.fits x.before) s x.call tracks.apart (tracks.zones (zone_of x.call)).good)

    told_now : (n : Name) (t : ℤ) (e : ℕ) (l : Local) → x.call ≡ query n t → x.report ≡ told e l → ToldFrom s n t e l
    told_now n t e l call report = query_told s n t e l (sym (came (query n t) call) ∙ report)

    latest_now : (n : Name) (t : ℤ) (e : ℕ) (l : Local) → ToldFrom s n t e l → (i : Interval) × (latest_in past n ≡ Some (record { edition = e; interval = i }))
    latest_now n t e l from =
        let zone = tracks.zones n in
        let c = from.copy in
        let last : latest_in past n ≡ Some (seen c) = zone.latest_is (seen c) (sym zone.held_is ∙ ap (option_map seen) from.held) in
        (c.interval, subst (λ (k : ℕ). latest_in past n ≡ Some (record { edition = k; interval = c.interval })) from.edition last)

    refused_now : (n : Name) (t : ℤ) → x.call ≡ query n t → (is_refusal x.report ≡ true) ↔ Unheld src (held_in past n) t
    refused_now n t call =
        let zone = tracks.zones n in
        subst (λ (r : Report). (is_refusal r ≡ true) ↔ Unheld src (held_in past n) t) (sym (came (query n t) call))
        (subst (λ (o : Option Accepted). (is_refusal (query_step s n t).report ≡ true) ↔ Unheld src o t) zone.held_is (query_refused s n t src (no_copy m s.floor n (owned s.cells n).copy zone.good.kept)))

    high_enough : (e : ℕ) → ((f : ℕ) → SomeMoment (Accepts f) past → f ≤ e) → (s.floor ≡ 0) ⊎ SomeMoment (Accepts s.floor) past → s.floor ≤ e
    high_enough e low (inl z) = omega arith
    high_enough e low (inr h) = low s.floor h

    accepted_now : (n : Name) (e : ℕ) → x.call ≡ collect n → (x.report ≡ collected e) ↔ ((i : Interval) × Due src x past n i e)
    accepted_now n e call = (λ report. let w = (collect_exact m s n e).0 (sym q ∙ report) in (w.0, due w.0 w.1), λ d. q ∙ (collect_exact m s n e).1 (d.0, ready d.0 d.1))
      where
        q : x.report ≡ (collect_step m s n).report
        q = came (collect n) call

        due : (i : Interval) → Ready m s n e i → Due src x past n i e
        due i r = record { pending = sym (tracks.zones n).pending_is ∙ r.pending; turn = r.turn; some = r.some; not_below = λ f h. omega (arith, tracks.accepts_low f h, r.high); page = r.page }

        ready : (i : Interval) → Due src x past n i e → Ready m s n e i
        ready i d = record { pending = (tracks.zones n).pending_is ∙ d.pending; turn = d.turn; some = d.some; high = high_enough e d.not_below tracks.reached; page = d.page }

  module _ (first : S) where
    -- a history that stands, and that the client tells
    record Going (h : History S) : Type 0 where
      pub tracks : Tracks (src.meaning (end_of first h)) h (client_after src h)
      pub stands : Stands src first h

    more : (x : Moment S) (past : History S) → Link src first x past → x.report ≡ (step (src.meaning x.before) (src.fits x.before) (client_after src past) x.call).report → Going past → Going (x ∷ past)
    more x past link out going =
        let m = src.meaning x.before in
        let before = subst (λ (y : S). Tracks (src.meaning y) past (client_after src past)) (sym link.begins) going.tracks in
        let answers = subst (λ (y : S). AnswersStand src y past) (sym link.begins) going.stands.answers in
        let on = gives_on m (src.meaning x.after) link.sound link.keeps in
        let move = moves x past link.sound before out in
        record {
          tracks = tracks_on past x m (src.meaning x.after) (client_after src past) _ link.sound link.keeps before move;
          stands = record {
            outcomes = (out, going.stands.outcomes);
            answers = (
              λ n t e l call report.
                  let from = told_now x past link.sound before out n t e l call report in
                  let given = told_given m (client_after src past) n t e l link.sound (before.zones n).good from in
                  (latest_now x past link.sound before out n t e l from, given, on n e t l given),
              answers_on x.before x.after on past answers,
            );
            editions = (editions_rise past x m (src.meaning x.after) (client_after src past) _ link.sound link.keeps before move, going.stands.editions);
            refused = (refused_now x past link.sound before out, going.stands.refused);
            accepted = (accepted_now x past link.sound before out, going.stands.accepted);
          };
        }

    going : (h : History S) → Linked src first h → OutcomesAsDefined src h → Going h
    going [] links outs = record { tracks = tracks_none (src.meaning first); stands = record { outcomes = tt; answers = tt; editions = tt; refused = tt; accepted = tt } }
    going (x ∷ past) links outs = more x past links.0 outs.0 (going past links.1 outs.1)

pub histories_stand : {S : Type 0} (src : Source S) (first : S) → HistoriesStand src first
histories_stand src first h links outs = (going src first h links outs).stands
