-- A session's calls, from what its client's calls ensure and how its pending fetches are taken and kept. Assumes nothing.
use Rattle.std.proofs.Common.{◌≡◌, ℕ, ◌<◌, false, List, length, get_or, set, Some, None, Option, sym, refl, ap, ◌∙◌, subst, arith}
use Rattle.std.specs.Option.{option_map}
use Rattle.names.specs.declared.name.Name.{Name}
use Rattle.zone.specs.declared.rows.Interval.{Interval}
use Rattle.provider.specs.declared.providers.Provider.{Ghosts}
use Rattle.provider.specs.Whole.{meaning}
use Rattle.history.specs.Cells.{place_of}
use Rattle.history.specs.Sources.{source}
use Rattle.history.specs.Steps.{Call, Report, abandon, abandoned, began, begin, begin_step, collect, collected, handed_back}
use Rattle.history.proofs.Places.{clash}
use Rattle.slots.specs.Told.{ComesTo, abandon_token}
use Rattle.slots.proofs.Finding.{cells_length}
use Rattle.client.specs.declared.clients.Client.{Client}
use Rattle.client.specs.declared.pending.PendingFetch.{PendingFetch}
use Rattle.client.specs.declared.sessions.Session.{Session}
use Rattle.client.specs.Following.{Collects, Fetches, state_in}
use Rattle.client.specs.Listing.{Performed, SessionInOrder, token_at, without}
use Rattle.client.proofs.Carried.{abandon_done, abandon_refused, begin_done, collect_done, collect_refused}

-- the pending fetch that was taken is that of the zone's slot
taken_is : (ts : List (Option PendingFetch)) (o : Option ℕ) (k : ℕ) (p : PendingFetch) → token_at ts o ≡ Some (k, p) → (o ≡ Some k) × (Some p ≡ get_or ts k None)
taken_is ts None k p h = clash (cc)
taken_is ts (Some j) k p h = by (get_or ts j None) refl h
  where
    by : (x : Option PendingFetch) → get_or ts j None ≡ x → option_map {U = ℕ × PendingFetch} (λ y. (j, y)) x ≡ Some (k, p) → (Some j ≡ Some k) × (Some p ≡ get_or ts k None)
    by None e g = clash (cc)
    by (Some y) e g =
        let pair : ◌≡◌ {A = ℕ × PendingFetch} (j, y) (k, p) = cc in
        let place = ap (λ (x : ℕ × PendingFetch). x.0) pair in
        (ap Some place, sym (ap (λ (x : ℕ × PendingFetch). Some x.1) pair) ∙ sym e ∙ ap (λ i. get_or ts i None) place)

module _ {S : Type 0} (g : Ghosts S) (old : Session S) where
  long : length old.tokens.items ≡ 16
  long = omega (arith, old.tokens.ok.0, old.all)

  -- a session whose client and pending fetches are these
  abbrev Does : Call → Client S → List (Option PendingFetch) → Report → Type 0
  Does call client' ts r = Performed g (source g) call old.client.provider client'.provider (state_in old.client) (state_in client') ts r

  pub begins : (kept : Session S) (n : Name) (i : Interval) (p : PendingFetch) (client' : Client S) → p.slot < 16 → p.spent ≡ false → ComesTo (begin_step (meaning g old.client.provider) (state_in old.client) n i) (began p.slot p.interval) (state_in client') → client'.provider ≡ old.client.provider → kept.client ≡ client' → kept.tokens.items ≡ set old.tokens.items p.slot (Some p) → SessionInOrder g old → Does (begin n i) kept.client kept.tokens.items (began p.slot i)
  begins kept n i p client' l unspent told same client tokens o =
      let did = (begin_done g old.client.provider client'.provider (state_in old.client) (state_in client') old.tokens.items n i p.slot p (Some p) long (cells_length old.client.slots) l refl unspent refl told same o.client o.tokens).1 in
      subst (λ x. Does (begin n i) x kept.tokens.items (began p.slot i)) (sym client) (subst (λ ts. Does (begin n i) client' ts (began p.slot i)) (sym tokens) did)

  -- a pending fetch that was taken
  module _ (taken : Session S) (n : Name) (k : ℕ) (p : PendingFetch) (l : k < 16) (at : token_at old.tokens.items (place_of (state_in old.client) n) ≡ Some (k, p)) (left : taken.tokens.items ≡ without old.tokens.items (place_of (state_in old.client) n)) (same : taken.client ≡ old.client) (o : SessionInOrder g old) where
    found : (place_of (state_in old.client) n ≡ Some k) × (Some p ≡ get_or old.tokens.items k None)
    found = taken_is old.tokens.items (place_of (state_in old.client) n) k p at

    gone : taken.tokens.items ≡ set old.tokens.items k None
    gone = left ∙ ap (without old.tokens.items) found.0

    module _ (client' : Client S) where
      pub collects : (e : ℕ) → Fetches g p.slot p.interval taken.client client' → Collects g p.slot p.interval taken.client client' (collected e) → Does (collect n) client' taken.tokens.items (collected e)
      collects e asked told =
          let asked' = subst (λ x. Fetches g p.slot p.interval x client') same asked in
          let told' = subst (λ x. Collects g p.slot p.interval x client' (collected e)) same told in
          let did = collect_done g old.client.provider client'.provider (state_in old.client) (state_in client') old.tokens.items n k p long (cells_length old.client.slots) l found.0 found.1 o.client o.tokens e None refl asked' (told' o.client) in
          subst (λ ts. Does (collect n) client' ts (collected e)) (sym gone) did

      pub collects_back : (num : ℕ) (vs : List ℕ) (back : PendingFetch) (after : Session S) (r : Report) → back ≡ p → Fetches g p.slot p.interval taken.client client' → Collects g p.slot p.interval taken.client client' (handed_back num vs back.slot back.interval) → after.client ≡ client' → after.tokens.items ≡ set taken.tokens.items k (Some back) → r ≡ handed_back num vs k back.interval → Does (collect n) after.client after.tokens.items r
      collects_back num vs back after r is asked told client tokens report =
          let asked' = subst (λ x. Fetches g p.slot p.interval x client') same asked in
          let told' = subst (λ x. Collects g p.slot p.interval x client' (handed_back num vs back.slot back.interval)) same told in
          let did = collect_refused g old.client.provider client'.provider (state_in old.client) (state_in client') old.tokens.items n k p long (cells_length old.client.slots) l found.0 found.1 o.client o.tokens num vs back None is asked' (told' o.client) in
          let kept = tokens ∙ ap (λ ts. set ts k (Some back)) gone in
          subst (λ x. Does (collect n) x after.tokens.items r) (sym client) (subst (λ ts. Does (collect n) client' ts r) (sym kept) (subst (Does (collect n) client' _) (sym report) did))

      pub abandons : ComesTo (abandon_token (state_in taken.client) p.slot p.interval) abandoned (state_in client') → client'.provider ≡ taken.client.provider → Does (abandon n) client' taken.tokens.items abandoned
      abandons told provider =
          let told' = subst (λ (x : Client S). ComesTo (abandon_token (state_in x) p.slot p.interval) abandoned (state_in client')) same told in
          let did = abandon_done g old.client.provider client'.provider (state_in old.client) (state_in client') old.tokens.items n k p long (cells_length old.client.slots) l found.0 found.1 o.client o.tokens None refl told' (provider ∙ ap (λ (x : Client S). x.provider) same) in
          subst (λ ts. Does (abandon n) client' ts abandoned) (sym gone) did

      pub never_back : {X : Type 0} (num : ℕ) (vs : List ℕ) (a : ℕ) (b : Interval) → ComesTo (abandon_token (state_in taken.client) p.slot p.interval) (handed_back num vs a b) (state_in client') → X
      never_back num vs a b told =
          let told' = subst (λ (x : Client S). ComesTo (abandon_token (state_in x) p.slot p.interval) (handed_back num vs a b) (state_in client')) same told in
          abandon_refused g old.client.provider client'.provider (state_in old.client) (state_in client') old.tokens.items n k p long (cells_length old.client.slots) l found.0 found.1 o.client o.tokens num vs a b told'
