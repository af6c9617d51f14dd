-- Every call of the client keeps it in order. Assumes nothing.
use Rattle.std.proofs.Common.{◌≡◌, ℕ, ◌⊎◌, [], Some, sym, refl, subst, inl, inr}
use Rattle.std.proofs.lemmas.Bool.{cond_both}
use Rattle.names.specs.declared.name.Name.{Name}
use Rattle.zone.specs.declared.rows.Interval.{Interval}
use Rattle.provider.specs.declared.providers.Provider.{Ghosts}
use Rattle.provider.specs.Meaning.{Meaning}
use Rattle.provider.specs.Whole.{meaning}
use Rattle.history.specs.Cells.{State, free, cell_at}
use Rattle.history.specs.Steps.{Report, Step, stays, handed_back, begin_step, forget_step, unmarked, abandon_pending}
use Rattle.client.specs.Agreeing.{Agrees}
use Rattle.client.specs.Following.{ClientInOrder}
use Rattle.slots.specs.Told.{ComesTo, is_pending, abandon_token}
use Rattle.client.proofs.Agreement.{agrees_set}
use Rattle.client.proofs.Marks.{Declines, Marks, Frees, begin_is, forget_is, unmarked_agrees}

-- a step that leaves the provider as it was
pub ordered : {S : Type 0} (g : Ghosts S) (before after : S) (s s' : State) (x : Step) (r : Report) → (Agrees (meaning g before) s → Agrees (meaning g before) x.state) → ComesTo x r s' → after ≡ before → ClientInOrder g before s → ClientInOrder g after s'
ordered g before after s s' x r f t same o =
    let a = subst (λ (y : Step). Agrees (meaning g before) y.state) t (f o.agrees) in
    record { order = subst g.in_order (sym same) o.order; agrees = subst (λ y. Agrees (meaning g y) s') (sym same) a }

pub begin_agrees : (m : Meaning) (s : State) (n : Name) (i : Interval) → Agrees m s → Agrees m (begin_step m s n i).state
begin_agrees m s n i a = go (begin_is m s n i a)
  where
    go : Declines s (begin_step m s n i) ⊎ Marks m s i (begin_step m s n i) → Agrees m (begin_step m s n i).state
    go (inl d) = subst (λ (x : Step). Agrees m x.state) (sym d.2) a
    go (inr x) = subst (λ (y : Step). Agrees m y.state) (sym x.is) (agrees_set m s x.place s.floor x.cell x.agrees a)

pub forget_agrees : (m : Meaning) (s : State) (n : Name) → Agrees m s → Agrees m (forget_step s n).state
forget_agrees m s n a = go (forget_is s n)
  where
    go : Declines s (forget_step s n) ⊎ Frees s (forget_step s n) → Agrees m (forget_step s n).state
    go (inl d) = subst (λ (x : Step). Agrees m x.state) (sym d.2) a
    go (inr x) = subst (λ (y : Step). Agrees m y.state) (sym x.is) (agrees_set m s x.place s.floor free (refl, refl) a)

pub abandon_agrees : (m : Meaning) (s : State) (k : ℕ) (i : Interval) → Agrees m s → Agrees m (abandon_token s k i).state
abandon_agrees m s k i a = cond_both (is_pending (cell_at s k).pending i) (abandon_pending s k (Some i)) (stays s (handed_back 10 [] k i)) (λ x. Agrees m x.state) (λ _. agrees_set m s k s.floor (unmarked (cell_at s k) (cell_at s k).copy) (unmarked_agrees m (cell_at s k) (cell_at s k).copy refl (a k)) a) (λ _. a)
