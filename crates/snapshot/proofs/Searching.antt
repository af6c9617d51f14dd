-- A search that halves, among the zones of a good snapshot. Assumes nothing.
use Rattle.std.proofs.Common.{◌≡◌, ℕ, ◌+◌, ◌<◌, ◌≤◌, true, false, ◌⊎◌, List, length, get_or, HoldsAt, Some, None, Ok, Err, Result, MatchOption, sym, refl, ap, ◌∙◌, subst, inl, inr, zero-le, arith}
use Rattle.std.specs.Str.{bytes_eq}
use Rattle.std.specs.Cmp.Lexicographic.{slice_cmp}
use Rattle.std.specs.List.Sorted.{IsBinarySearchResult, IsNonDecreasingBy, IsSearchInRange}
use Rattle.std.specs.Ordering.{nat_cmp, is_lt, is_eq, ordering_index}
use Rattle.std.specs.Result.{result_ok}
use Rattle.std.specs.declared.cmp.Ordering.{Ordering}
use Rattle.std.specs.declared.cmp.Ordering.TheVariants.{Equal}
use Rattle.std.proofs.lemmas.Bool.{cases_Bool}
use Rattle.std.proofs.lemmas.Bool.Decides.{nat_tests}
use Rattle.std.proofs.lemmas.Cmp.{nat_list_cmp_total, same_from_slice_cmp, tied_itself}
use Rattle.std.proofs.lemmas.List.Sorted.{searchable_from_sorted}
use Rattle.names.specs.declared.name.Name.{Name}
use Rattle.names.specs.Comparing.{before}
use Rattle.names.proofs.Ordered.{before_never, before_chain, same_name_is}
use Rattle.zone.specs.declared.rows.Interval.{Interval}
use Rattle.snapshot.specs.declared.zones.Zone.{Zone}
use Rattle.snapshot.specs.Laws.{Good}
use Rattle.snapshot.specs.Zones.{is_good, page, page_of}
use Rattle.snapshot.proofs.Standing.{snapshots_stand}

-- what the comparison of names tells of their bytes
lt_told : (a b : List ℕ) → is_lt (slice_cmp nat_cmp a b) ≡ before a b
lt_told a b = same_from_slice_cmp nat_cmp is_lt before refl (λ _ _. refl) (λ _ _. refl) (λ x y xs ys o h. grind (arith, nat_tests)) a b _ refl

eq_told : (a b : List ℕ) → is_eq (slice_cmp nat_cmp a b) ≡ bytes_eq a b
eq_told a b = same_from_slice_cmp nat_cmp is_eq bytes_eq refl (λ _ _. refl) (λ _ _. refl) (λ x y xs ys o h. grind (arith, nat_tests)) a b _ refl

-- two names do not come before each other
not_back : (a b : List ℕ) → before a b ≡ true → before b a ≡ false
not_back a b h = elim (cases_Bool (before b a)) [ inl y ↦ absurd (let e : true ≡ false = sym (before_chain a b a h y) ∙ before_never a in let z : ◌≡◌ {A = ℕ} 0 1 = cc in omega arith) | inr f ↦ f ]

-- how a zone's name compares with a name
abbrev pub against : Name → Zone → Ordering
against n z = slice_cmp nat_cmp z.name.bytes n.bytes

split : (k i : ℕ) → (k < i) ⊎ (i ≤ k)
split k i = grind arith

module _ (e : ℕ) (span : Interval) (zs : List Zone) (n : Name) (good : is_good e span zs ≡ true) where
  stands : Good e span zs
  stands = (snapshots_stand.good e span zs).0 good

  searchable : IsNonDecreasingBy (λ z. ordering_index (against n z)) zs
  searchable = searchable_from_sorted nat_list_cmp_total (λ (z : Zone). z.name.bytes) zs n.bytes (λ k d l m. lt_told (get_or zs (k + 1) d).name.bytes (get_or zs k d).name.bytes ∙ not_back (get_or zs k d).name.bytes (get_or zs (k + 1) d).name.bytes (stands.order k d m))

  found : (i : ℕ) → i < length zs → IsBinarySearchResult (against n) zs (Ok i) → (d : Zone) → page_of n zs ≡ Some (page (get_or zs i d))
  found i l b d =
      let same : bytes_eq (get_or zs i d).name.bytes n.bytes ≡ true = sym (eq_told (get_or zs i d).name.bytes n.bytes) ∙ ap is_eq (b d) in
      let q : (get_or zs i d).name ≡ n = same_name_is (get_or zs i d).name n same in
      subst (λ (x : Name). page_of x zs ≡ Some (page (get_or zs i d))) q (snapshots_stand.held e span zs stands i d l)

  -- a zone on either side of the place has another name
  missing : (i : ℕ) → IsBinarySearchResult (against n) zs (Err i) → page_of n zs ≡ None
  missing i b = snapshots_stand.others zs n (λ k d l q. apart k d l (subst (λ (x : Name). slice_cmp nat_cmp x.bytes n.bytes ≡ Equal) (sym q) (tied_itself nat_list_cmp_total n.bytes)))
    where
      apart : (k : ℕ) (d : Zone) → k < length zs → against n (get_or zs k d) ≡ Equal → ⊥
      apart k d l t = elim (split k i) [ inl m ↦ (let u = (b searchable).0 k d zero-le m in cc) | inr m ↦ (let u = (b searchable).1 k d m l in cc) ]

  in_order : (r : Result ℕ ℕ) → IsSearchInRange r (length zs) → IsBinarySearchResult (against n) zs r → MatchOption (result_ok r) (page_of n zs ≡ None) (λ i. (i < length zs) × HoldsAt (λ z. (page_of n zs ≡ Some (page z)) × (z.window.interval ≡ span)) zs i)
  in_order (Ok i) l b = (l, λ d. (found i l b d, stands.windows i d l))
  in_order (Err i) l b = missing i b

  -- what the search in a slice of the zones has told
  pub told : (xs : List Zone) (r : Result ℕ ℕ) → xs ≡ zs → IsSearchInRange r (length xs) → IsBinarySearchResult (against n) xs r → MatchOption (result_ok r) (page_of n zs ≡ None) (λ i. (i < length zs) × HoldsAt (λ z. (page_of n zs ≡ Some (page z)) × (z.window.interval ≡ span)) zs i)
  told xs r q l b = in_order r (subst (λ (x : List Zone). IsSearchInRange r (length x)) q l) (subst (λ (x : List Zone). IsBinarySearchResult (against n) x r) q b)
