-- A new client agrees with its provider, and nothing is pending. Assumes nothing.
use Rattle.std.proofs.Common.{◌≡◌, ℕ, zero, suc, ◌+◌, ◌<◌, List, [], ◌∷◌, ◌++◌, map, length, get_or, take, replicate, None, Option, sym, refl, ap, ◌∙◌, subst}
use Rattle.std.proofs.lemmas.List.{map_more, map_push}
use Rattle.provider.specs.Meaning.{Meaning}
use Rattle.history.specs.Cells.{Cell, State, free, new_client}
use Rattle.history.specs.Histories.{Source}
use Rattle.history.specs.Steps.{Call, Report}
use Rattle.history.proofs.Going.{Going, Goes, going_begins, going_goes}
use Rattle.client.specs.declared.pending.PendingFetch.{PendingFetch}
use Rattle.client.specs.Agreeing.{CellAgrees, Agrees}
use Rattle.client.specs.Listing.{token_for, Matches}

same_everywhere : {X : Type 0} (n k : ℕ) (x : X) → get_or (replicate n x) k x ≡ x
same_everywhere zero k x = refl
same_everywhere (suc n) zero x = refl
same_everywhere (suc n) (suc k) x = same_everywhere n k x

pub agrees_new : (m : Meaning) (s : State) → s ≡ new_client → Agrees m s
agrees_new m s q = subst (Agrees m) (sym q) (λ k. subst (λ (c : Cell). CellAgrees m c.owner c) (sym (same_everywhere 16 k free)) (refl, refl))

pub matches_new : (tokens : List (Option PendingFetch)) (s : State) → tokens ≡ replicate 16 None → s ≡ new_client → Matches tokens s
matches_new tokens s t q k l = ap (λ x. get_or x k None) t ∙ same_everywhere 16 k None ∙ ap (λ (c : Cell). token_for k c.pending) (sym (same_everywhere 16 k free)) ∙ ap (λ (x : State). token_for k (get_or x.cells k free).pending) (sym q)

-- the history so far, at the loop's start and one call on
pub starts : {S : Type 0} (src : Source S) (first : S) (s : State) (reports : List Report) → s ≡ new_client → reports ≡ [] → Going src first first [] reports s
starts src first s reports q r = subst (λ x. Going src first first [] x s) (sym r) (subst (Going src first first [] []) (sym q) (going_begins src first))

pub goes_on : {S X Y : Type 0} (src : Source S) (first before after : S) (call_of : X → Call) (report_of : Y → Report) (calls : List X) (outcomes outcomes' : List Y) (i : ℕ) (x : X) (y : Y) (s s' : State) → i < length calls → x ≡ get_or calls i x → outcomes' ≡ outcomes ++ (y ∷ []) → Goes src before after (call_of x) (report_of y) s s' → Going src first before (map call_of (take i calls)) (map report_of outcomes) s → Going src first after (map call_of (take (i + 1) calls)) (map report_of outcomes') s'
goes_on src first before after call_of report_of calls outcomes outcomes' i x y s s' l is push goes g =
    let more = map_more call_of calls i x l ∙ ap (λ z. map call_of (take i calls) ++ (call_of z ∷ [])) (sym is) in
    let told = ap (map report_of) push ∙ map_push report_of outcomes y in
    subst (λ z. Going src first after z (map report_of outcomes') s') (sym more) (subst (λ z. Going src first after (map call_of (take i calls) ++ (call_of x ∷ [])) z s') (sym told) (going_goes src first before after (map call_of (take i calls)) (map report_of outcomes) (call_of x) (report_of y) s s' goes g))
