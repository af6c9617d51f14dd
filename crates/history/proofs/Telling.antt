-- When the rules answer a query and when they accept a collect. Assumes nothing.
use Rattle.std.proofs.Common.{◌≡◌, ℕ, ◌≤◌, Bool, true, false, eqb, ltb, leb, ◌↔◌, List, [], ◌∷◌, length, ℤ, Some, None, Option, sym, refl, ap, ◌∙◌, subst, arith}
use Rattle.std.specs.Option.{option_map}
use Rattle.std.proofs.lemmas.Bool.{cond_both, eqb-true, eqb-false, ltb-true, ltb-false, leb-true, leb-false}
use Rattle.names.specs.declared.name.Name.{Name}
use Rattle.zone.specs.declared.rows.Interval.{Interval}
use Rattle.zone.specs.Intervals.{has_instant}
use Rattle.names.specs.Names.{is_name}
use Rattle.zone.specs.Refusals.{Outcome, refused}
use Rattle.zone.specs.Rows.{window_rows}
use Rattle.cutting.specs.declared.locals.Local.{Local}
use Rattle.cutting.specs.Cutting.{cut, local}
use Rattle.provider.specs.Meaning.{Meaning, Page}
use Rattle.history.specs.Cells.{Copy, Cell, State, owned_by, cell_at}
use Rattle.history.specs.Histories.{Source}
use Rattle.history.specs.Promises.{is_refusal, Unheld}
use Rattle.history.specs.Steps.{collected, told, declined, handed_back, not_pending, Step, stays, settled, accepted, taken, collected_at, collect_pending, collect_place, collect_step, queried_copy, query_place, query_step}
use Rattle.history.proofs.Places.{clash, not_both, by_option, by_place, owned, At}
use Rattle.history.proofs.Standing.{seen}

-- what an answered query was told from
pub record ToldFrom (s : State) (n : Name) (t : ℤ) (e : ℕ) (l : Local) : Type 0 where
  pub copy : Copy
  pub held : (owned s.cells n).copy ≡ Some copy
  pub inside : has_instant copy.interval t ≡ true
  pub edition : copy.edition ≡ e
  pub time : local copy.rows t ≡ l

module _ (s : State) (n : Name) (t : ℤ) where
  abbrev mine : Cell
  mine = owned s.cells n

  module _ (e : ℕ) (l : Local) where
    abbrev Tells : Outcome Step → Type 0
    Tells o = (settled s o).report ≡ told e l → ToldFrom s n t e l

    declined_not : (k : ℕ) (vs : List ℕ) → declined k vs ≡ told e l → ToldFrom s n t e l
    declined_not k vs h = clash (cc)

    tells : (c : Copy) → mine.copy ≡ Some c → has_instant c.interval t ≡ true → told c.edition (local c.rows t) ≡ told e l → ToldFrom s n t e l
    tells c held inside h = record { copy = c; held = held; inside = inside; edition = cc; time = cc }

    pub query_told : (query_step s n t).report ≡ told e l → ToldFrom s n t e l
    query_told = cond_both (is_name n.bytes) _ _ Tells (λ _. by_place s n (λ o. Tells (query_place s t o)) (λ _ _. declined_not 11 []) at) (λ _. declined_not 1 [])
      where
        at : (k : ℕ) → At (owned_by n) s.cells k → cell_at s k ≡ mine → Tells (query_place s t (Some k))
        at k h same =
            by_option (cell_at s k).copy (λ o. Tells (queried_copy s t o)) (λ _. declined_not 11 [])
            (λ c q. cond_both (has_instant c.interval t) _ _ Tells (tells c (ap (λ (x : Cell). x.copy) (sym same) ∙ q)) (λ _. declined_not 12 []))

  -- a query is refused exactly where nothing that is held has the instant
  module _ {S : Type 0} (src : Source S) (named : is_name n.bytes ≡ false → mine.copy ≡ None) where
    abbrev Refuses : Outcome Step → Type 0
    Refuses o = (is_refusal (settled s o).report ≡ true) ↔ Unheld src (option_map seen mine.copy) t

    refuses_none : (k : ℕ) (vs : List ℕ) → mine.copy ≡ None → Refuses (refused k vs)
    refuses_none k vs q = (λ _. subst (λ (o : Option Copy). Unheld src (option_map seen o) t) (sym q) tt, λ _. refl)

    refuses_by : (c : Copy) → mine.copy ≡ Some c → Refuses (queried_copy s t (Some c))
    refuses_by c q =
        let at : (b : Bool) → has_instant c.interval t ≡ b → Unheld src (option_map seen mine.copy) t → b ≡ false = λ b h u. sym h ∙ subst (λ (o : Option Copy). Unheld src (option_map seen o) t) q u in
        cond_both (has_instant c.interval t) _ _ Refuses (λ h. (λ z. clash (cc), λ u. not_both true refl (at true h u)))
        (λ h. (λ _. subst (λ (o : Option Copy). Unheld src (option_map seen o) t) (sym q) h, λ _. refl))

    pub query_refused : (is_refusal (query_step s n t).report ≡ true) ↔ Unheld src (option_map seen mine.copy) t
    query_refused = cond_both (is_name n.bytes) _ _ Refuses (λ _. by_place s n (λ o. Refuses (query_place s t o)) (λ _ none. refuses_none 11 [] (ap (λ (x : Cell). x.copy) none)) at) (λ h. refuses_none 1 [] (named h))
      where
        at : (k : ℕ) → At (owned_by n) s.cells k → cell_at s k ≡ mine → Refuses (query_place s t (Some k))
        at k h same =
            let copies = ap (λ (x : Cell). x.copy) (sym same) in
            by_option (cell_at s k).copy (λ o. Refuses (queried_copy s t o)) (λ q. refuses_none 11 [] (copies ∙ q)) (λ c q. refuses_by c (copies ∙ q))

-- a collect of the zone is accepted with edition e
pub record Ready (m : Meaning) (s : State) (n : Name) (e : ℕ) (i : Interval) : Type 0 where
  pub pending : (owned s.cells n).pending ≡ Some i
  pub turn : m.turn n i ≡ e
  pub some : 1 ≤ e
  pub high : s.floor ≤ e
  pub page : (p : Page) × (m.pages e n ≡ Some p) × (length (cut p.rows i) ≤ window_rows)

module _ (m : Meaning) (s : State) (n : Name) (e : ℕ) where
  abbrev AcceptsSo : Step → Type 0
  AcceptsSo st = (st.report ≡ collected e) ↔ ((i : Interval) × Ready m s n e i)

  refuses_pending : (owned s.cells n).pending ≡ None → AcceptsSo (stays s not_pending)
  refuses_pending q = (λ h. clash (cc), λ r. let p = r.1.pending in clash (cc))

  module _ (k : ℕ) (i : Interval) (pending : (owned s.cells n).pending ≡ Some i) where
    -- it is ready at the pending interval
    ready_here : (i : Interval) × Ready m s n e i → Ready m s n e i
    ready_here r = let p = r.1.pending in let q : r.0 ≡ i = cc in subst (Ready m s n e) q r.1

    hands_back : (w : ℕ) (vs : List ℕ) → (Ready m s n e i → ⊥) → AcceptsSo (stays s (handed_back w vs k i))
    hands_back w vs no' = (λ h. clash (cc), λ r. absurd (no' (ready_here r)))

    module _ (d : ℕ) (turn : m.turn n i ≡ d) where
      accepts : (p : Page) → (d ≡ 0 → ⊥) → s.floor ≤ d → m.pages d n ≡ Some p → length (cut p.rows i) ≤ window_rows → AcceptsSo (accepted s k i d p)
      accepts p some high page small = (λ h. let q : d ≡ e = cc in (i, subst (λ (f : ℕ). Ready m s n f i) q (record { pending = pending; turn = turn; some = omega (arith, some); high = high; page = (p, page, small) })), λ r. ap collected (sym turn ∙ (ready_here r).turn))

      accepts_by : (d ≡ 0 → ⊥) → s.floor ≤ d → AcceptsSo (taken s k i d (m.pages d n))
      accepts_by some high = by_option (m.pages d n) (λ o. AcceptsSo (taken s k i d o)) (λ q. hands_back 5 (d ∷ []) (none q)) paged
        where
          none : m.pages d n ≡ None → Ready m s n e i → ⊥
          none q r = let f : d ≡ e = sym turn ∙ r.turn in let g = ap (λ (y : ℕ). m.pages y n) f in let p = r.page.1 in clash (cc)

          large : (p : Page) → m.pages d n ≡ Some p → leb (length (cut p.rows i)) window_rows ≡ false → Ready m s n e i → ⊥
          large p q l r =
              let f : d ≡ e = sym turn ∙ r.turn in
              let g = ap (λ (y : ℕ). m.pages y n) f in
              let o = r.page.1 in
              let same : r.page.0 ≡ p = cc in
              omega (arith, leb-false (length (cut p.rows i)) window_rows l, ap (λ (y : Page). length (cut y.rows i)) same, r.page.2)

          paged : (p : Page) → m.pages d n ≡ Some p → AcceptsSo (taken s k i d (Some p))
          paged p q = cond_both (leb (length (cut p.rows i)) window_rows) _ _ AcceptsSo (λ l. accepts p some high q (leb-true (length (cut p.rows i)) window_rows l)) (λ l. hands_back 6 (d ∷ []) (large p q l))

      accepts_at : AcceptsSo (collected_at s k i d (m.pages d n))
      accepts_at =
          cond_both (eqb d 0) _ _ AcceptsSo (λ z. hands_back 4 [] (λ r. omega (arith, eqb-true d 0 z, turn, r.turn, r.some)))
          (λ z. cond_both (ltb d s.floor) _ _ AcceptsSo (λ l. hands_back 7 (d ∷ []) (λ r. omega (arith, ltb-true d s.floor l, turn, r.turn, r.high))) (λ l. accepts_by (eqb-false d 0 z) (ltb-false d s.floor l)))

  pub collect_exact : ((collect_step m s n).report ≡ collected e) ↔ ((i : Interval) × Ready m s n e i)
  collect_exact = by_place s n (λ o. AcceptsSo (collect_place m s n o)) (λ _ none. refuses_pending (ap (λ (x : Cell). x.pending) none)) at
    where
      at : (k : ℕ) → At (owned_by n) s.cells k → cell_at s k ≡ owned s.cells n → AcceptsSo (collect_place m s n (Some k))
      at k h same =
          let pendings = ap (λ (x : Cell). x.pending) (sym same) in
          by_option (cell_at s k).pending (λ o. AcceptsSo (collect_pending m s n k o)) (λ q. refuses_pending (pendings ∙ q)) (λ i q. accepts_at k i (pendings ∙ q) (m.turn n i) refl)
