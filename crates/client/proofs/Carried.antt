-- One call of a list, from what the client's own calls ensure. Assumes nothing.
use Rattle.std.proofs.Common.{◌≡◌, ℕ, zero, suc, ◌<◌, false, ◌⊎◌, List, [], ◌∷◌, length, get_or, set, Some, None, Option, sym, refl, ap, ◌∙◌, subst, inl, inr}
use Rattle.std.proofs.lemmas.List.{get_or-set_other, set-set, set-get_or}
use Rattle.std.proofs.lemmas.Bool.{cases_eq}
use Rattle.names.specs.declared.name.Name.{Name}
use Rattle.zone.specs.declared.rows.Interval.{Interval}
use Rattle.provider.specs.declared.providers.Provider.{Ghosts}
use Rattle.provider.specs.Meaning.{Keeps}
use Rattle.provider.specs.Whole.{meaning}
use Rattle.history.specs.Cells.{Cell, State, free, place_of, cell_at, with_cell}
use Rattle.history.specs.Histories.{Moves}
use Rattle.history.specs.Sources.{source}
use Rattle.history.specs.Steps.{Call, begin, collect, abandon, forget, Report, began, collected, abandoned, forgotten, declined, handed_back, Step, begin_step, collect_step, abandon_step, forget_step, unmarked, abandon_pending, abandon_place, step}
use Rattle.history.proofs.Places.{clash}
use Rattle.client.specs.declared.pending.PendingFetch.{PendingFetch}
use Rattle.client.specs.Agreeing.{Agrees}
use Rattle.client.specs.Following.{ClientInOrder, Asked, Collected}
use Rattle.client.specs.Listing.{token_for, Matches, Performed}
use Rattle.slots.specs.Told.{ComesTo, is_pending, abandon_token}
use Rattle.client.specs.Told.{collect_token}
use Rattle.client.proofs.Agreement.{keeps_same, agrees_set}
use Rattle.client.proofs.Collecting.{token_is}
use Rattle.client.proofs.Marks.{Declines, Marks, Frees, Holds, HandsBack, begin_is, collect_is, forget_is, matches_set, AtHand, at_hand, pending_same, owned_at, collect_by_place, asked_by_place, abandon_by_place, unmarked_pending, unmarked_agrees}

-- two outcomes of one step
same_state : {x : Step} {r r' : Report} {s s' : State} → x ≡ record { report = r; state = s } → x ≡ record { report = r'; state = s' } → s' ≡ s
same_state a b = ap (λ (x : Step). x.state) (sym b ∙ a)

same_report : {x : Step} {r r' : Report} {s s' : State} → x ≡ record { report = r; state = s } → x ≡ record { report = r'; state = s' } → r' ≡ r
same_report a b = ap (λ (x : Step). x.report) (sym b ∙ a)

-- a cell that is freed, whose zone had no fetch pending
getD_free : (cells : List Cell) (k : ℕ) → get_or (set cells k free) k free ≡ free
getD_free [] k = refl
getD_free (c ∷ cs) zero = refl
getD_free (c ∷ cs) (suc k) = getD_free cs k

freed_matches : (tokens : List (Option PendingFetch)) (s : State) (k : ℕ) → (cell_at s k).pending ≡ None → Matches tokens s → Matches tokens (with_cell s k free)
freed_matches tokens s k idle h j l = h j l ∙ ap (token_for j) (elim (cases_eq j k) [
  | inl q ↦ ap (λ y. (cell_at s y).pending) q ∙ idle ∙ sym (ap (λ (c : Cell). c.pending) (ap (λ y. get_or (set s.cells k free) y free) q ∙ getD_free s.cells k))
  | inr d ↦ ap (λ (c : Cell). c.pending) (sym (get_or-set_other s.cells k j free free d))
])

module _ {S : Type 0} (g : Ghosts S) (before after : S) (s s' : State) (tokens : List (Option PendingFetch)) where
  -- a call that asks the provider nothing
  steady : (call : Call) (tokens' : List (Option PendingFetch)) (r : Report) → step (meaning g before) (λ n. false) s call ≡ record { report = r; state = s' } → Moves (source g) s call before after → after ≡ before → g.in_order before → Agrees (meaning g before) s' → Matches tokens' s' → Performed g (source g) call before after s s' tokens' r
  steady call tokens' r t moves same o a h =
      record {
        told = t;
        moves = moves;
        keeps = subst (λ x. Keeps (meaning g before) (meaning g x)) (sym same) (keeps_same (meaning g before));
        order = record { order = subst g.in_order (sym same) o; agrees = subst (λ x. Agrees (meaning g x) s') (sym same) a };
        matches = h;
      }

  -- a refused call, which leaves all as it was
  still : (call : Call) (r : Report) → step (meaning g before) (λ n. false) s call ≡ record { report = r; state = s' } → Moves (source g) s call before after → after ≡ before → s' ≡ s → ClientInOrder g before s → Matches tokens s → Performed g (source g) call before after s s' tokens r
  still call r t moves same q o h = steady call tokens r t moves same o.order (subst (Agrees (meaning g before)) (sym q) o.agrees) (subst (Matches tokens) (sym q) h)

  pub begin_refused : (n : Name) (i : Interval) (num : ℕ) (vs : List ℕ) → ComesTo (begin_step (meaning g before) s n i) (declined num vs) s' → after ≡ before → ClientInOrder g before s → Matches tokens s → Performed g (source g) (begin n i) before after s s' tokens (declined num vs)
  begin_refused n i num vs t same o h = still (begin n i) (declined num vs) t same same (unchanged (begin_is (meaning g before) s n i o.agrees)) o h
    where
      unchanged : Declines s (begin_step (meaning g before) s n i) ⊎ Marks (meaning g before) s i (begin_step (meaning g before) s n i) → s' ≡ s
      unchanged (inl d) = same_state d.2 t
      unchanged (inr x) = let q = same_report x.is t in clash (cc)

  pub begin_done : (n : Name) (i : Interval) (k : ℕ) (p : PendingFetch) (o' : Option PendingFetch) → length tokens ≡ 16 → length s.cells ≡ 16 → k < 16 → p.slot ≡ k → p.spent ≡ false → o' ≡ Some p → ComesTo (begin_step (meaning g before) s n i) (began k p.interval) s' → after ≡ before → ClientInOrder g before s → Matches tokens s → (p.interval ≡ i) × Performed g (source g) (begin n i) before after s s' (set tokens k o') (began k i)
  begin_done n i k p o' lt lc l slot spent is t same o h = go (begin_is (meaning g before) s n i o.agrees)
    where
      go : Declines s (begin_step (meaning g before) s n i) ⊎ Marks (meaning g before) s i (begin_step (meaning g before) s n i) → (p.interval ≡ i) × Performed g (source g) (begin n i) before after s s' (set tokens k o') (began k i)
      go (inl d) = let q = same_report d.2 t in clash (cc)
      go (inr x) =
          let q = same_report x.is t in
          let place : k ≡ x.place = cc in
          let over : p.interval ≡ i = cc in
          let state : s' ≡ with_cell s k x.cell = same_state x.is t ∙ ap (λ y. with_cell s y x.cell) (sym place) in
          let make : ℕ → Interval → PendingFetch = λ a b. record { slot = a; interval = b; spent = false } in
          let token : p ≡ record { slot = k; interval = i; spent = false } = ap (λ b. record { slot = p.slot; interval = p.interval; spent = b }) spent ∙ ap (λ a. make a p.interval) slot ∙ ap (make k) over in
          let at : o' ≡ token_for k x.cell.pending = is ∙ ap Some token ∙ ap (token_for k) (sym x.pending) in
          (over, steady (begin n i) (set tokens k o') (began k i) (t ∙ ap (λ b. record { report = began k b; state = s' }) over) same same o.order (subst (Agrees (meaning g before)) (sym state) (agrees_set (meaning g before) s k s.floor x.cell x.agrees o.agrees)) (subst (Matches (set tokens k o')) (sym state) (matches_set tokens s k s.floor x.cell o' lt lc l at h)))

  -- a collect of a pending fetch that is at hand
  module _ (n : Name) (k : ℕ) (p : PendingFetch) (lt : length tokens ≡ 16) (lc : length s.cells ≡ 16) (l : k < 16) (place : place_of s n ≡ Some k) (here : Some p ≡ get_or tokens k None) (o : ClientInOrder g before s) (h : Matches tokens s) where
    abbrev hand : AtHand s k p
    hand = at_hand tokens s k p l here h

    -- the rules' collect of the zone is that of the slot
    by_slot : (r : Report) → ComesTo (collect_token (meaning g before) s p.slot p.interval) r s' → collect_step (meaning g before) s n ≡ record { report = r; state = s' }
    by_slot r t =
        let m = meaning g before in
        let at = ap (λ (x : PendingFetch). collect_token m s x.slot x.interval) hand.token in
        collect_by_place m s n k hand.interval place hand.marked ∙ sym (token_is m s k hand.interval n (ap (λ y. is_pending y hand.interval) hand.marked ∙ pending_same hand.interval) (owned_at s n k place)) ∙ sym at ∙ t

    asks : Asked g s p.slot p.interval before after → Moves (source g) s (collect n) before after
    asks a = asked_by_place g s n k hand.interval before after place hand.marked (subst (λ (x : PendingFetch). Asked g s x.slot x.interval before after) hand.token a)

    kind : HandsBack s (collect_step (meaning g before) s n) ⊎ Holds s k (collect_step (meaning g before) s n)
    kind = subst (λ x. HandsBack s x ⊎ Holds s k x) (sym (collect_by_place (meaning g before) s n k hand.interval place hand.marked)) (collect_is s k hand.interval ((meaning g before).turn n hand.interval) ((meaning g before).pages ((meaning g before).turn n hand.interval) n))

    pub collect_done : (e : ℕ) (o' : Option PendingFetch) → o' ≡ None → Asked g s p.slot p.interval before after → Collected g s p.slot p.interval before after (collected e) s' → Performed g (source g) (collect n) before after s s' (set tokens k o') (collected e)
    collect_done e o' gone a c = record { told = by_slot (collected e) c.told; moves = asks a; keeps = c.keeps; order = c.order; matches = go kind }
      where
        go : HandsBack s (collect_step (meaning g before) s n) ⊎ Holds s k (collect_step (meaning g before) s n) → Matches (set tokens k o') s'
        go (inl b) = let q = same_report b.4 (by_slot (collected e) c.told) in clash (cc)
        go (inr x) =
            let state = same_state x.is (by_slot (collected e) c.told) in
            subst (Matches (set tokens k o')) (sym state) (matches_set tokens s k x.edition x.cell o' lt lc l (gone ∙ ap (token_for k) (sym x.pending)) h)

    pub collect_refused : (num : ℕ) (vs : List ℕ) (back : PendingFetch) (o' : Option PendingFetch) → back ≡ p → Asked g s p.slot p.interval before after → Collected g s p.slot p.interval before after (handed_back num vs back.slot back.interval) s' → Performed g (source g) (collect n) before after s s' (set (set tokens k o') k (Some back)) (handed_back num vs k back.interval)
    collect_refused num vs back o' same a c =
        let slot : back.slot ≡ k = ap (λ (x : PendingFetch). x.slot) (same ∙ hand.token) in
        let t = by_slot (handed_back num vs back.slot back.interval) c.told ∙ ap (λ x. record { report = handed_back num vs x back.interval; state = s' }) slot in
        let tokens_same : set (set tokens k o') k (Some back) ≡ tokens = set-set tokens k o' (Some back) ∙ ap (set tokens k) (ap Some same ∙ here) ∙ set-get_or tokens k None in
        record { told = t; moves = asks a; keeps = c.keeps; order = c.order; matches = subst (λ x. Matches x s') (sym tokens_same) (go kind t) }
      where
        go : HandsBack s (collect_step (meaning g before) s n) ⊎ Holds s k (collect_step (meaning g before) s n) → collect_step (meaning g before) s n ≡ record { report = handed_back num vs k back.interval; state = s' } → Matches tokens s'
        go (inl b) t = subst (Matches tokens) (sym (same_state b.4 t)) h
        go (inr x) t = let q = same_report x.is t in clash (cc)

    -- an abandon of it
    abandons : (r : Report) → ComesTo (abandon_token s p.slot p.interval) r s' → abandon_step s n ≡ record { report = r; state = s' }
    abandons r t = abandon_by_place s n k hand.interval place hand.marked ∙ sym (ap (λ (x : PendingFetch). abandon_token s x.slot x.interval) hand.token) ∙ t

    unmarks : abandon_step s n ≡ record { report = abandoned; state = with_cell s k (unmarked (cell_at s k) (cell_at s k).copy) }
    unmarks = ap (abandon_place s) place ∙ ap (abandon_pending s k) hand.marked

    pub abandon_done : (o' : Option PendingFetch) → o' ≡ None → ComesTo (abandon_token s p.slot p.interval) abandoned s' → after ≡ before → Performed g (source g) (abandon n) before after s s' (set tokens k o') abandoned
    abandon_done o' gone t same =
        let m = meaning g before in
        let c = unmarked (cell_at s k) (cell_at s k).copy in
        let state = same_state unmarks (abandons abandoned t) in
        steady (abandon n) (set tokens k o') abandoned (abandons abandoned t) same same o.order (subst (Agrees m) (sym state) (agrees_set m s k s.floor c (unmarked_agrees m (cell_at s k) (cell_at s k).copy refl (o.agrees k)) o.agrees))
        (subst (Matches (set tokens k o')) (sym state) (matches_set tokens s k s.floor c o' lt lc l (gone ∙ ap (token_for k) (sym (unmarked_pending (cell_at s k) (cell_at s k).copy))) h))

    pub abandon_refused : {X : Type 0} (num : ℕ) (vs : List ℕ) (a : ℕ) (b : Interval) → ComesTo (abandon_token s p.slot p.interval) (handed_back num vs a b) s' → X
    abandon_refused num vs a b t = let q = same_report unmarks (abandons (handed_back num vs a b) t) in clash (cc)

  pub forget_refused : (n : Name) (num : ℕ) (vs : List ℕ) → ComesTo (forget_step s n) (declined num vs) s' → after ≡ before → ClientInOrder g before s → Matches tokens s → Performed g (source g) (forget n) before after s s' tokens (declined num vs)
  forget_refused n num vs t same o h = still (forget n) (declined num vs) t same same (unchanged (forget_is s n)) o h
    where
      unchanged : Declines s (forget_step s n) ⊎ Frees s (forget_step s n) → s' ≡ s
      unchanged (inl d) = same_state d.2 t
      unchanged (inr x) = let q = same_report x.is t in clash (cc)

  pub forget_done : (n : Name) → ComesTo (forget_step s n) forgotten s' → after ≡ before → length s.cells ≡ 16 → ClientInOrder g before s → Matches tokens s → Performed g (source g) (forget n) before after s s' tokens forgotten
  forget_done n t same lc o h = go (forget_is s n)
    where
      go : Declines s (forget_step s n) ⊎ Frees s (forget_step s n) → Performed g (source g) (forget n) before after s s' tokens forgotten
      go (inl d) = let q = same_report d.2 t in clash (cc)
      go (inr x) =
          let m = meaning g before in
          let state = same_state x.is t in
          steady (forget n) tokens forgotten t same same o.order (subst (Agrees m) (sym state) (agrees_set m s x.place s.floor free (refl, refl) o.agrees)) (subst (Matches tokens) (sym state) (freed_matches tokens s x.place x.idle h))
