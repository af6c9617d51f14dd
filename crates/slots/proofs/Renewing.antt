-- A reply that what a slot holds is still good. Assumes nothing.
use Rattle.std.proofs.Common.{◌≡◌, ℕ, Bool, true, false, if◌then◌else◌, Some, None, Ok, Option, nat_lt, set, sym, refl, ap, ◌∙◌, subst}
use Rattle.std.proofs.lemmas.List.{set-get_or}
use Rattle.std.specs.Option.{ok_or}
use Rattle.zone.specs.declared.refusals.Refusal.TheVariants.{Silent}
use Rattle.zone.specs.declared.rows.Interval.{Interval}
use Rattle.zone.specs.declared.windows.Window.{Window}
use Rattle.provider.specs.declared.requests.Reply.TheVariants.{Unchanged}
use Rattle.history.specs.Cells.{Copy, Cell, State, cell_at, free}
use Rattle.slots.specs.Taking.{can_renew, received, renewal, taken_report}
use Rattle.slots.specs.Told.{ComesTo, is_pending}
use Rattle.slots.specs.Turning.{floor_by}

unrenewed : (i : Interval) (e : ℕ) (cell : Cell) (copy : Option Copy) → can_renew i copy ≡ false → renewal i e cell copy ≡ cell
unrenewed i e cell None h = refl
unrenewed i e cell (Some c) h = rw h

module _ (s : State) (k e : ℕ) (i : Interval) (w : Window) (new : Cell) where
  -- the step of the reply comes to what was made of it
  abbrev Answers : Option ℕ → Type 0
  Answers r = ComesTo (received s k i (Ok (Unchanged e)) w) (taken_report (ok_or r Silent) k i) (record { cells = set s.cells k new; floor = floor_by (ok_or r Silent) s.floor })

  renews : is_pending (cell_at s k).pending i ≡ true → nat_lt e s.floor ≡ false → (b : Bool) → can_renew i (cell_at s k).copy ≡ b → new ≡ renewal i e (cell_at s k) (cell_at s k).copy → Answers (if b then Some e else None)
  renews pending above true can is = rw (pending, above, can, is) refl
  renews pending above false can is =
      let same = ap (set s.cells k) (is ∙ unrenewed i e (cell_at s k) (cell_at s k).copy can) ∙ set-get_or s.cells k free in
      rw (pending, above, can, same) refl

  pub unchanged : (old : Cell) (r : Option ℕ) → cell_at s k ≡ old → is_pending old.pending i ≡ true → nat_lt e s.floor ≡ false → r ≡ (if can_renew i old.copy then Some e else None) → new ≡ renewal i e old old.copy → Answers r
  unchanged old r there pending above told is =
      let by : Cell → Type 0 = λ c. is_pending c.pending i ≡ true → new ≡ renewal i e c c.copy → Answers (if can_renew i c.copy then Some e else None) in
      subst Answers (sym told) (subst by there (λ p n. renews p above (can_renew i (cell_at s k).copy) refl n) pending is)
