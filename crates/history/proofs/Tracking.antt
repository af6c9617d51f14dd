-- One call more: a client goes on to tell what its history says. Assumes nothing.
use Rattle.std.proofs.Common.{◌≡◌, ℕ, ◌≤◌, Bool, true, false, cond, ◌⊎◌, [], ◌∷◌, Some, None, Option, sym, refl, ap, ◌∙◌, subst, inl, inr, arith}
use Rattle.std.specs.Option.{option_map}
use Rattle.names.specs.declared.name.Name.{Name}
use Rattle.names.specs.Comparing.{same_name}
use Rattle.names.proofs.Ordered.{same_name_is}
use Rattle.zone.specs.declared.rows.Interval.{Interval}
use Rattle.zone.specs.Intervals.{within}
use Rattle.provider.specs.Meaning.{Meaning, Page, Sound, Keeps}
use Rattle.history.specs.Cells.{Copy, Cell, State, new_client, owned_by}
use Rattle.history.specs.Histories.{Moment, History, SomeMoment}
use Rattle.history.specs.Promises.{Accepted, Names, Accepts, zone_of, edition_in, over, pending_by, latest_by, held_by, pending_in, latest_in, held_in}
use Rattle.history.specs.Steps.{Report, began, collected, abandoned, forgotten, told, announced, declined, handed_back, not_pending}
use Rattle.history.proofs.Places.{clash, not_both, owned, once_free}
use Rattle.history.proofs.Standing.{seen, IfSome, Wanted, Kept, Good, Reached, Zone, Tracks, Floors, Moved}

if_some_on : {X : Type 0} {P Q : X → Type 0} (o : Option X) → ((x : X) → P x → Q x) → IfSome P o → IfSome Q o
if_some_on None f h = tt
if_some_on (Some x) f h = f x h

-- what the record gave it goes on to give
wanted_on : (m m' : Meaning) (n : Name) (i : Interval) → Keeps m m' → Wanted m n i → Wanted m' n i
wanted_on m m' n i k w = record { name = w.name; inside = subst (λ (o : Interval). within i o ≡ true) (sym k.span) w.inside }

pub page_on : (m m' : Meaning) (e : ℕ) (n : Name) (p : Page) → Sound m → Keeps m m' → m.pages e n ≡ Some p → m'.pages e n ≡ Some p
page_on m m' e n p s k h = k.same e n (s.paged e n p h).last ∙ h

kept_on : (m m' : Meaning) (floor floor' : ℕ) (n : Name) (c : Copy) → Sound m → Keeps m m' → floor ≤ floor' → Kept m floor n c → Kept m' floor' n c
kept_on m m' floor floor' n c s k up h = record {
  wanted = wanted_on m m' n c.interval k h.wanted;
  high = omega (arith, h.high);
  page = h.page;
  paged = page_on m m' c.edition n h.page s k h.paged;
  rows = h.rows;
}

good_on : (m m' : Meaning) (floor floor' : ℕ) (n : Name) (c : Cell) → Sound m → Keeps m m' → floor ≤ floor' → Good m floor n c → Good m' floor' n c
good_on m m' floor floor' n c s k up g = record { wanted = if_some_on c.pending (λ i. wanted_on m m' n i k) g.wanted; kept = if_some_on c.copy (λ x. kept_on m m' floor floor' n x s k up) g.kept }

-- an outcome: what it says of the zone, by what was pending, latest and held before it
module _ (p : Option Interval) (hd : Option Accepted) (floor after : ℕ) where
  rises : (r : Report) → Floors r p hd floor after → floor ≤ after
  rises (began k i) f = omega arith
  rises (collected e) f = omega (arith, f.0, f.1)
  rises abandoned f = omega arith
  rises forgotten f = omega arith
  rises (told e l) f = omega (arith, f.0)
  rises (announced e) f = omega arith
  rises (declined n vs) f = omega arith
  rises (handed_back n vs k i) f = omega arith
  rises not_pending f = omega arith

  module _ (l : Option Accepted) (is : (a : Accepted) → hd ≡ Some a → l ≡ Some a) (low : (a : Accepted) → l ≡ Some a → a.edition ≤ floor) where
    latest_is_on : (r : Report) (a : Accepted) → held_by r p hd ≡ Some a → latest_by r p l ≡ Some a
    latest_is_on (began k i) a h = is a h
    latest_is_on (collected e) a h = h
    latest_is_on abandoned a h = is a h
    latest_is_on forgotten a h = clash (cc)
    latest_is_on (told e t) a h = is a h
    latest_is_on (announced e) a h = is a h
    latest_is_on (declined n vs) a h = is a h
    latest_is_on (handed_back n vs k i) a h = is a h
    latest_is_on not_pending a h = is a h

    latest_low_on : (r : Report) → Floors r p hd floor after → (a : Accepted) → latest_by r p l ≡ Some a → a.edition ≤ after
    latest_low_on (began k i) f a h = omega (arith, low a h)
    latest_low_on (collected e) f a h =
        let q : over e (Some f.2.0) ≡ Some a = ap (over e) (sym f.2.1) ∙ h in
        let w : record { edition = e; interval = f.2.0 } ≡ a = cc in
        omega (arith, f.0, ap (λ (b : Accepted). b.edition) w)
    latest_low_on abandoned f a h = omega (arith, low a h)
    latest_low_on forgotten f a h = omega (arith, low a h)
    latest_low_on (told e t) f a h = omega (arith, f.0, low a h)
    latest_low_on (announced e) f a h = omega (arith, low a h)
    latest_low_on (declined n vs) f a h = omega (arith, low a h)
    latest_low_on (handed_back n vs k i) f a h = omega (arith, low a h)
    latest_low_on not_pending f a h = omega (arith, low a h)

    under_floor : (e f : ℕ) (o : Option Accepted) → l ≡ o → Reached f o → floor ≤ e → f ≤ e
    under_floor e f None q h up = absurd h
    under_floor e f (Some a) q h up = omega (arith, low a q)

    accepted_reaches : (e f : ℕ) (i : Interval) → p ≡ Some i → f ≤ e → Reached f (over e p)
    accepted_reaches e f i q h = subst (λ (o : Option Interval). Reached f (over e o)) (sym q) h

    reached_on : (r : Report) → Floors r p hd floor after → (f : ℕ) → Reached f l → Reached f (latest_by r p l)
    reached_on (began k i) fl f h = h
    reached_on (collected e) fl f h = accepted_reaches e f fl.2.0 fl.2.1 (under_floor e f l refl h fl.1)
    reached_on abandoned fl f h = h
    reached_on forgotten fl f h = h
    reached_on (told e t) fl f h = h
    reached_on (announced e) fl f h = h
    reached_on (declined n vs) fl f h = h
    reached_on (handed_back n vs k i) fl f h = h
    reached_on not_pending fl f h = h

    reached_now : (r : Report) → Floors r p hd floor after → (f : ℕ) → edition_in r ≡ Some f → Reached f (latest_by r p l)
    reached_now (began k i) fl f h = clash (cc)
    reached_now (collected e) fl f h = let q : e ≡ f = cc in accepted_reaches e f fl.2.0 fl.2.1 (omega arith)
    reached_now abandoned fl f h = clash (cc)
    reached_now forgotten fl f h = clash (cc)
    reached_now (told e t) fl f h =
        let q : e ≡ f = cc in
        subst (Reached f) (sym (is (record { edition = e; interval = fl.1.0 }) fl.1.1)) (omega (arith, q))
    reached_now (announced e) fl f h = clash (cc)
    reached_now (declined n vs) fl f h = clash (cc)
    reached_now (handed_back n vs k i) fl f h = clash (cc)
    reached_now not_pending fl f h = clash (cc)

    -- an edition that is named now is no lower than those named before
    reached_under : (r : Report) → Floors r p hd floor after → (e f : ℕ) → edition_in r ≡ Some e → Reached f l → f ≤ e
    reached_under (began k i) fl e f h g = clash (cc)
    reached_under (collected d) fl e f h g = let q : d ≡ e = cc in omega (arith, q, under_floor d f l refl g fl.1)
    reached_under abandoned fl e f h g = clash (cc)
    reached_under forgotten fl e f h g = clash (cc)
    reached_under (told d t) fl e f h g =
        let q : d ≡ e = cc in
        let u : f ≤ d = subst (Reached f) (is (record { edition = d; interval = fl.1.0 }) fl.1.1) g in
        omega arith
    reached_under (announced d) fl e f h g = clash (cc)
    reached_under (declined n vs) fl e f h g = clash (cc)
    reached_under (handed_back n vs k i) fl e f h g = clash (cc)
    reached_under not_pending fl e f h g = clash (cc)

module _ {S : Type 0} (past : History S) (floor after : ℕ) where
  abbrev Reaches : Report → Type 0
  Reaches r = (after ≡ 0) ⊎ ((r ≡ collected after) ⊎ SomeMoment (Accepts after) past)

  -- where the floor was reached
  floor_stays : (r : Report) → (floor ≡ 0) ⊎ SomeMoment (Accepts floor) past → after ≡ floor → Reaches r
  floor_stays r (inl z) q = inl (q ∙ z)
  floor_stays r (inr h) q = inr (inr (subst (λ (e : ℕ). SomeMoment (Accepts e) past) (sym q) h))

  floor_on : (r : Report) (p : Option Interval) (hd : Option Accepted) → Floors r p hd floor after → (floor ≡ 0) ⊎ SomeMoment (Accepts floor) past → Reaches r
  floor_on (began k i) p hd f was = floor_stays (began k i) was f
  floor_on (collected e) p hd f was = inr (inl (ap collected (sym f.0)))
  floor_on abandoned p hd f was = floor_stays abandoned was f
  floor_on forgotten p hd f was = floor_stays forgotten was f
  floor_on (told e l) p hd f was = floor_stays (told e l) was f.0
  floor_on (announced e) p hd f was = floor_stays (announced e) was f
  floor_on (declined n vs) p hd f was = floor_stays (declined n vs) was f
  floor_on (handed_back n vs k i) p hd f was = floor_stays (handed_back n vs k i) was f
  floor_on not_pending p hd f was = floor_stays not_pending was f

-- before the first call
pub tracks_none : {S : Type 0} (m : Meaning) → Tracks {S = S} m [] new_client
tracks_none m = record {
  apart = λ q. once_free (owned_by q) 16 refl;
  zones = λ n. record { good = record { wanted = tt; kept = tt }; pending_is = refl; held_is = refl; latest_is = λ a h. h; latest_low = λ a h. clash (cc); named = λ f h. h };
  accepts_low = λ f h. absurd h;
  reached = inl refl;
}

-- one call more
module _ {S : Type 0} (past : History S) (x : Moment S) (m m' : Meaning) (s after : State) (sound : Sound m) (keeps : Keeps m m') (tracks : Tracks m past s) (moved : Moved m s after (zone_of x.call) x.report) where
  abbrev z : Name
  z = zone_of x.call

  abbrev r : Report
  r = x.report

  up : s.floor ≤ after.floor
  up = rises _ _ s.floor after.floor r moved.floors

  -- the same, by what the history says
  floors : Floors r (pending_in past z) (held_in past z) s.floor after.floor
  floors =
      let zone = tracks.zones z in
      subst (λ (h : Option Accepted). Floors r (pending_in past z) h s.floor after.floor) zone.held_is
      (subst (λ (p : Option Interval). Floors r p (option_map seen (owned s.cells z).copy) s.floor after.floor) zone.pending_is moved.floors)

  -- the zone of the call
  abbrev Mine : Name → Cell → Type 0
  Mine n c = Zone m' after.floor n c (pending_by r (pending_in past n)) (latest_by r (pending_in past n) (latest_in past n)) (held_by r (pending_in past n) (held_in past n)) (λ f. SomeMoment (Names n f) (x ∷ past))

  mine_named : (f : ℕ) → SomeMoment (Names z f) (x ∷ past) → Reached f (latest_by r (pending_in past z) (latest_in past z))
  mine_named f (inl h) = let zone = tracks.zones z in reached_now (pending_in past z) (held_in past z) s.floor after.floor (latest_in past z) zone.latest_is zone.latest_low r floors f h.1
  mine_named f (inr h) = let zone = tracks.zones z in reached_on (pending_in past z) (held_in past z) s.floor after.floor (latest_in past z) zone.latest_is zone.latest_low r floors f (zone.named f h)

  mine_cell : Mine z moved.cell
  mine_cell =
      let zone = tracks.zones z in
      record {
        good = good_on m m' after.floor after.floor z moved.cell sound keeps (omega arith) moved.good;
        pending_is = moved.pending ∙ ap (pending_by r) zone.pending_is;
        held_is = moved.held ∙ ap (λ p. held_by r p (option_map seen (owned s.cells z).copy)) zone.pending_is ∙ ap (held_by r (pending_in past z)) zone.held_is;
        latest_is = latest_is_on (pending_in past z) (held_in past z) s.floor after.floor (latest_in past z) zone.latest_is zone.latest_low r;
        latest_low = latest_low_on (pending_in past z) (held_in past z) s.floor after.floor (latest_in past z) zone.latest_is zone.latest_low r floors;
        named = mine_named;
      }

  mine : Mine z (owned after.cells z)
  mine = subst (Mine z) (sym moved.put.mine) mine_cell

  -- another zone
  abbrev Other : Name → Cell → Type 0
  Other q c = Zone m' after.floor q c (pending_in past q) (latest_in past q) (held_in past q) (λ f. SomeMoment (Names q f) (x ∷ past))

  other_named : (q : Name) → same_name z q ≡ false → (f : ℕ) → SomeMoment (Names q f) (x ∷ past) → Reached f (latest_in past q)
  other_named q d f (inl h) = not_both (same_name z q) h.0 d
  other_named q d f (inr h) = (tracks.zones q).named f h

  other : (q : Name) → same_name z q ≡ false → Other q (owned after.cells q)
  other q d =
      let zone = tracks.zones q in
      subst (Other q) (sym (moved.put.others q d)) (record {
        good = good_on m m' s.floor after.floor q (owned s.cells q) sound keeps up zone.good;
        pending_is = zone.pending_is;
        held_is = zone.held_is;
        latest_is = zone.latest_is;
        latest_low = λ a h. omega (arith, zone.latest_low a h, up);
        named = other_named q d;
      })

  -- any zone
  zone_by : (q : Name) (b : Bool) → same_name z q ≡ b → Zone m' after.floor q (owned after.cells q) (cond b (pending_by r (pending_in past q)) (pending_in past q)) (cond b (latest_by r (pending_in past q) (latest_in past q)) (latest_in past q)) (cond b (held_by r (pending_in past q) (held_in past q)) (held_in past q)) (λ f. SomeMoment (Names q f) (x ∷ past))
  zone_by q true t = subst (λ (y : Name). Mine y (owned after.cells y)) (same_name_is z q t) mine
  zone_by q false t = other q t

  accepts_low : (f : ℕ) → SomeMoment (Accepts f) (x ∷ past) → f ≤ after.floor
  accepts_low f (inl h) = let g = subst (λ (y : Report). Floors y (pending_in past z) (held_in past z) s.floor after.floor) h floors in omega (arith, g.0)
  accepts_low f (inr h) = omega (arith, tracks.accepts_low f h, up)

  pub tracks_on : Tracks m' (x ∷ past) after
  tracks_on = record { apart = moved.put.apart; zones = λ n. zone_by n (same_name z n) refl; accepts_low = accepts_low; reached = floor_on past s.floor after.floor r (pending_in past z) (held_in past z) floors tracks.reached }

  -- of two editions named for one zone the later is no lower
  pub editions_rise : (n : Name) (e f : ℕ) → Names n e x → SomeMoment (Names n f) past → f ≤ e
  editions_rise n e f now before =
      let zone = tracks.zones z in
      let same : n ≡ z = sym (same_name_is z n now.0) in
      reached_under (pending_in past z) (held_in past z) s.floor after.floor (latest_in past z) zone.latest_is zone.latest_low r floors e f now.1 (zone.named f (subst (λ (y : Name). SomeMoment (Names y f) past) same before))
