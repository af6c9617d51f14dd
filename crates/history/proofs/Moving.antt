-- What each call does to the cell of its zone, by the rules. Assumes nothing.
use Rattle.std.proofs.Common.{◌≡◌, ℕ, ◌≤◌, Bool, false, eqb, ltb, leb, List, [], ◌∷◌, length, position, ℤ, Some, None, sym, refl, ap, ◌∙◌, subst, arith}
use Rattle.std.specs.Option.{option_map}
use Rattle.std.proofs.lemmas.Bool.{cond_both, ltb-false}
use Rattle.names.specs.declared.name.Name.{Name}
use Rattle.names.proofs.Ordered.{same_name_self}
use Rattle.zone.specs.declared.rows.Interval.{Interval}
use Rattle.zone.specs.Intervals.{era, has_instant, within}
use Rattle.names.specs.Names.{is_name}
use Rattle.zone.specs.Refusals.{Outcome, answered, refused}
use Rattle.zone.specs.Rows.{window_rows}
use Rattle.cutting.specs.Cutting.{cut, local}
use Rattle.provider.specs.Meaning.{Meaning, Page}
use Rattle.provider.specs.Publishing.{published}
use Rattle.history.specs.Cells.{Copy, Cell, State, free, is_free, owned_by, place_of, cell_at, with_cell}
use Rattle.history.specs.Promises.{zone_of, pending_by, held_by, over}
use Rattle.history.specs.Steps.{Call, begin, collect, abandon, forget, query, publish, Report, abandoned, forgotten, told, announced, declined, handed_back, not_pending, Step, stays, settled, marked, reserved, begun, begin_step, accepted, taken, collected_at, collect_pending, collect_place, collect_step, unmarked, abandon_pending, abandon_place, abandon_step, forgotten_at, forget_place, forget_step, queried_copy, query_place, query_step, publish_report, step}
use Rattle.history.proofs.Places.{by_option, by_place, owned, Apart, put_none, put_owned, put_first, put_free, place_some, passes_at, At, Lacks}
use Rattle.history.proofs.Standing.{seen, IfSome, Wanted, Kept, Good, Floors, Moved}

module _ (m : Meaning) (s : State) (n : Name) (apart : Apart s.cells) (good : Good m s.floor n (owned s.cells n)) where
  -- the zone's cell before the call
  abbrev mine : Cell
  mine = owned s.cells n

  -- the step is a move of the zone
  abbrev pub Does : Step → Type 0
  Does st = Moved m s st.state n st.report

  abbrev Settles : Outcome Step → Type 0
  Settles o = Does (settled s o)

  -- an outcome that leaves all as it was
  idle : (r : Report) → mine.pending ≡ pending_by r mine.pending → option_map seen mine.copy ≡ held_by r mine.pending (option_map seen mine.copy) → Floors r mine.pending (option_map seen mine.copy) s.floor s.floor → Moved m s s n r
  idle r p h f = record { cell = mine; put = put_none s.cells n apart; good = good; pending = p; held = h; floors = f }

  declines : (k : ℕ) (vs : List ℕ) → Does (stays s (declined k vs))
  declines k vs = idle (declined k vs) refl refl refl

  -- a begin
  module _ (i : Interval) (wanted : Wanted m n i) where
    marks : (k : ℕ) → At (owned_by n) s.cells k → cell_at s k ≡ mine → Settles (begun s n i (Some k))
    marks k h same = by_option (cell_at s k).pending (λ p. Settles (marked s k i (cell_at s k) p)) (λ e. go) (λ j e. declines 8 [])
      where
        go : Settles (marked s k i (cell_at s k) None)
        go = record {
          cell = record { owner = (cell_at s k).owner; copy = (cell_at s k).copy; pending = Some i };
          put = put_owned s.cells n k _ apart h (passes_at (owned_by n) s.cells k h);
          good = record { wanted = wanted; kept = subst (λ (c : Cell). IfSome (Kept m s.floor n) c.copy) (sym same) good.kept };
          pending = refl;
          held = ap (λ (c : Cell). option_map seen c.copy) same;
          floors = refl;
        }

    reserves : Lacks (owned_by n) s.cells → mine ≡ free → Settles (begun s n i None)
    reserves lacks none = by_option (position is_free s.cells) (λ o. Settles (reserved s n i o)) (λ e. declines 9 []) go
      where
        go : (k : ℕ) → position is_free s.cells ≡ Some k → Settles (reserved s n i (Some k))
        go k e = record {
          cell = record { owner = Some n; copy = None; pending = Some i };
          put = put_first s.cells n k _ apart (place_some is_free s.cells k e) lacks (same_name_self n);
          good = record { wanted = wanted; kept = tt };
          pending = refl;
          held = ap (λ (c : Cell). option_map seen c.copy) (sym none);
          floors = refl;
        }

  begins : (i : Interval) → Does (begin_step m s n i)
  begins i =
      cond_both (is_name n.bytes) _ _ Settles
      (λ a. cond_both (within i era) _ _ Settles (λ _. cond_both (within i m.span) _ _ Settles (λ b. next (record { name = a; inside = b })) (λ _. declines 3 [])) (λ _. declines 2 []))
      (λ _. declines 1 [])
    where
      next : Wanted m n i → Settles (begun s n i (place_of s n))
      next w = by_place s n (λ o. Settles (begun s n i o)) (reserves i w) (marks i w)

  -- the pending fetch of the zone is wanted
  wanted_of : (i : Interval) → mine.pending ≡ Some i → Wanted m n i
  wanted_of i e = subst (IfSome (Wanted m n)) e good.wanted

  -- a collect
  module _ (k : ℕ) (h : At (owned_by n) s.cells k) (i : Interval) (pending : mine.pending ≡ Some i) where
    hands_back : (w : ℕ) (vs : List ℕ) → Does (stays s (handed_back w vs k i))
    hands_back w vs = idle (handed_back w vs k i) refl refl refl

    takes : (e : ℕ) (p : Page) → s.floor ≤ e → m.pages e n ≡ Some p → Does (accepted s k i e p)
    takes e p high page = record {
      cell = record { owner = (cell_at s k).owner; copy = Some (record { edition = e; tag = p.tag; interval = i; rows = cut p.rows i }); pending = None };
      put = put_owned s.cells n k _ apart h (passes_at (owned_by n) s.cells k h);
      good = record { wanted = tt; kept = record { wanted = wanted_of i pending; high = omega arith; page = p; paged = page; rows = refl } };
      pending = refl;
      held = ap (over e) (sym pending);
      floors = (refl, high, (i, pending));
    }

    collects_at : (e : ℕ) → Does (collected_at s k i e (m.pages e n))
    collects_at e = cond_both (eqb e 0) _ _ Does (λ _. hands_back 4 []) (λ _. cond_both (ltb e s.floor) _ _ Does (λ _. hands_back 7 (e ∷ [])) high)
      where
        high : ltb e s.floor ≡ false → Does (taken s k i e (m.pages e n))
        high l =
            by_option (m.pages e n) (λ o. Does (taken s k i e o)) (λ _. hands_back 5 (e ∷ []))
            (λ p q. cond_both (leb (length (cut p.rows i)) window_rows) _ _ Does (λ _. takes e p (ltb-false e s.floor l) q) (λ _. hands_back 6 (e ∷ [])))

  not_pends : Does (stays s not_pending)
  not_pends = idle not_pending refl refl refl

  collects : Does (collect_step m s n)
  collects = by_place s n (λ o. Does (collect_place m s n o)) (λ l none. not_pends) at
    where
      at : (k : ℕ) → At (owned_by n) s.cells k → cell_at s k ≡ mine → Does (collect_place m s n (Some k))
      at k h same = by_option (cell_at s k).pending (λ p. Does (collect_pending m s n k p)) (λ _. not_pends) (λ i e. collects_at k h i (ap (λ (c : Cell). c.pending) (sym same) ∙ e) (m.turn n i))

  -- an abandon
  abandons : Does (abandon_step s n)
  abandons = by_place s n (λ o. Does (abandon_place s o)) (λ l none. not_pends) at
    where
      frees : (k : ℕ) → At (owned_by n) s.cells k → mine.copy ≡ None → Does (record { report = abandoned; state = with_cell s k (unmarked (cell_at s k) None) })
      frees k h e = record { cell = free; put = put_free s.cells n k apart h; good = record { wanted = tt; kept = tt }; pending = refl; held = ap (option_map seen) (sym e); floors = refl }

      keeps : (k : ℕ) (c : Copy) → At (owned_by n) s.cells k → mine.copy ≡ Some c → Does (record { report = abandoned; state = with_cell s k (unmarked (cell_at s k) (Some c)) })
      keeps k c h e = record {
        cell = record { owner = (cell_at s k).owner; copy = Some c; pending = None };
        put = put_owned s.cells n k _ apart h (passes_at (owned_by n) s.cells k h);
        good = record { wanted = tt; kept = subst (IfSome (Kept m s.floor n)) e good.kept };
        pending = refl;
        held = ap (option_map seen) (sym e);
        floors = refl;
      }

      at : (k : ℕ) → At (owned_by n) s.cells k → cell_at s k ≡ mine → Does (abandon_place s (Some k))
      at k h same =
          let copies = ap (λ (c : Cell). c.copy) (sym same) in
          by_option (cell_at s k).pending (λ p. Does (abandon_pending s k p)) (λ _. not_pends)
          (λ i _. by_option (cell_at s k).copy (λ o. Does (record { report = abandoned; state = with_cell s k (unmarked (cell_at s k) o) })) (λ e. frees k h (copies ∙ e)) (λ c e. keeps k c h (copies ∙ e)))

  -- a forget
  forgets : Does (forget_step s n)
  forgets = cond_both (is_name n.bytes) _ _ Settles (λ _. by_place s n (λ o. Settles (forget_place s o)) (λ l none. declines 11 []) at) (λ _. declines 1 [])
    where
      frees : (k : ℕ) → At (owned_by n) s.cells k → mine.pending ≡ None → Does (record { report = forgotten; state = with_cell s k free })
      frees k h e = record { cell = free; put = put_free s.cells n k apart h; good = record { wanted = tt; kept = tt }; pending = sym e; held = refl; floors = refl }

      at : (k : ℕ) → At (owned_by n) s.cells k → cell_at s k ≡ mine → Settles (forget_place s (Some k))
      at k h same =
          let pendings = ap (λ (c : Cell). c.pending) (sym same) in
          by_option (cell_at s k).copy (λ o. Settles (forgotten_at s k o (cell_at s k).pending)) (λ _. declines 11 [])
          (λ c _. by_option (cell_at s k).pending (λ p. Settles (forgotten_at s k (Some c) p)) (λ e. frees k h (pendings ∙ e)) (λ i _. declines 8 []))

  -- a query
  queries : (t : ℤ) → Does (query_step s n t)
  queries t = cond_both (is_name n.bytes) _ _ Settles (λ _. by_place s n (λ o. Settles (query_place s t o)) (λ l none. declines 11 []) at) (λ _. declines 1 [])
    where
      tells : (c : Copy) → mine.copy ≡ Some c → Does (stays s (told c.edition (local c.rows t)))
      tells c e = idle (told c.edition (local c.rows t)) refl refl (refl, (c.interval, ap (option_map seen) e))

      at : (k : ℕ) → At (owned_by n) s.cells k → cell_at s k ≡ mine → Settles (query_place s t (Some k))
      at k h same =
          by_option (cell_at s k).copy (λ o. Settles (queried_copy s t o)) (λ _. declines 11 [])
          (λ c e. cond_both (has_instant c.interval t) _ _ Settles (λ _. tells c (ap (λ (x : Cell). x.copy) (sym same) ∙ e)) (λ _. declines 12 []))

  -- a publication
  publishes : (o : Outcome ℕ) → Does (stays s (publish_report o))
  publishes (answered e) = idle (announced e) refl refl refl
  publishes (refused k vs) = declines k vs

-- any call
pub moved : (m : Meaning) (fits : ℕ → Bool) (s : State) (call : Call) → Apart s.cells → Good m s.floor (zone_of call) (owned s.cells (zone_of call)) → Moved m s (step m fits s call).state (zone_of call) (step m fits s call).report
moved m fits s (begin n i) a g = begins m s n a g i
moved m fits s (collect n) a g = collects m s n a g
moved m fits s (abandon n) a g = abandons m s n a g
moved m fits s (forget n) a g = forgets m s n a g
moved m fits s (query n t) a g = queries m s n a g t
moved m fits s (publish n t) a g = publishes m s n a g (published m fits n t)
