-- What the client makes of a reply is what the rules say of the collect. Assumes nothing.
use Rattle.std.proofs.Common.{◌≡◌, ℕ, ◌≤◌, Bool, true, false, cond, eqb, ltb, leb, List, [], ◌∷◌, length, Some, None, Ok, Err, vec_items, MatchOption, Option, Result, sym, refl, ap, ◌∙◌, subst, arith}
use Rattle.std.proofs.lemmas.Bool.{le-leb, ne_eqb}
use Rattle.names.specs.declared.name.Name.{Name}
use Rattle.zone.specs.declared.refusals.Refusal.{Refusal}
use Rattle.zone.specs.declared.refusals.Refusal.TheVariants.{BadName, BadInterval, OutsideSpan, Silent, NoPage, TooManyRows, BelowFloor, AlreadyPending, NoFreeSlot, NotPending, NotHeld, OutsideWindow, NotATable, DoesNotFit, BadText, BufferTooShort}
use Rattle.zone.specs.declared.rows.Interval.{Interval}
use Rattle.zone.specs.declared.rows.Row.{Row}
use Rattle.zone.specs.declared.windows.Window.{Window}
use Rattle.zone.specs.Intervals.{same_interval, within}
use Rattle.zone.specs.Refusals.{answered, refused, number, values}
use Rattle.zone.specs.Rows.{window_rows}
use Rattle.zone.proofs.Testing.{decides_interval}
use Rattle.cutting.specs.Cutting.{cut}
use Rattle.provider.specs.declared.providers.Provider.{Ghosts}
use Rattle.provider.specs.declared.requests.Reply.{Reply}
use Rattle.provider.specs.declared.requests.Reply.TheVariants.{Unchanged, Fresh}
use Rattle.provider.specs.declared.requests.Request.{Request}
use Rattle.provider.specs.Fetching.{unchanged, fresh, edition_answer, turn_answer, fetched, judged, Leaves}
use Rattle.provider.specs.Meaning.{Meaning, Page, Sound}
use Rattle.provider.proofs.Held.{held_cut}
use Rattle.provider.proofs.Checks.{checked_next, answers_come_from_pages}
use Rattle.history.specs.Cells.{Copy, Cell, State, cell_at}
use Rattle.history.specs.Steps.{handed_back, Step, stays, known_tag, accepted, taken, collected_at}
use Rattle.slots.proofs.Requests.{request_is}
use Rattle.client.specs.Agreeing.{Copied, Ready, CopiedIf, ReadyIf, CellAgrees, Agrees}
use Rattle.client.specs.Following.{Asked}
use Rattle.slots.specs.Taking.{can_renew, renewed, renewal, floored, holds, take_unchanged, take_fresh, take_reply}
use Rattle.slots.specs.Told.{is_pending, request_for}
use Rattle.client.specs.Told.{collect_request, collect_token}

clash : {X : Type 0} → ◌≡◌ {A = ℕ} 0 1 → X
clash z = absurd (omega arith)

-- what a refusal becomes under a floor, by its number and values
pub record Says (f n n' : ℕ) (vs vs' : List ℕ) : Type 0 where
  pub silent : n ≡ 4 → (n' ≡ 4) × (vs' ≡ vs)
  pub above : (e : ℕ) → vs ≡ e ∷ [] → ltb e f ≡ false → (n' ≡ n) × (vs' ≡ vs)
  pub below : (e : ℕ) → (n ≡ 5) → vs ≡ e ∷ [] → ltb e f ≡ true → (n' ≡ 7) × (vs' ≡ e ∷ [])
  pub below_rows : (e : ℕ) → (n ≡ 6) → vs ≡ e ∷ [] → ltb e f ≡ true → (n' ≡ 7) × (vs' ≡ e ∷ [])

same_says : (f n : ℕ) (vs : List ℕ) → (n ≡ 5 → ⊥) → (n ≡ 6 → ⊥) → Says f n n vs vs
same_says f n vs five six = record { silent = λ h. (h, refl); above = λ e v l. (refl, refl); below = λ e h v l. absurd (five h); below_rows = λ e h v l. absurd (six h) }

-- a refusal with an edition
edition_says : (f e n : ℕ) (low high : Refusal) (b : Bool) → ltb e f ≡ b → (n ≡ 4 → ⊥) → (number low ≡ 7) × (values low ≡ e ∷ []) → (number high ≡ n) × (values high ≡ e ∷ []) → Says f n (number (cond b low high)) (e ∷ []) (values (cond b low high))
edition_says f e n low high true q four l h = record { silent = λ x. absurd (four x); above = λ d v x. let s : e ≡ d = cc in let y : true ≡ false = sym q ∙ ap (λ z. ltb z f) s ∙ x in clash (let z : ◌≡◌ {A = Bool} true false = y in cc); below = λ d x v y. (l.0, l.1 ∙ v); below_rows = λ d x v y. (l.0, l.1 ∙ v) }
edition_says f e n low high false q four l h = record { silent = λ x. absurd (four x); above = λ d v x. h; below = λ d x v y. let s : e ≡ d = cc in let z : false ≡ true = sym q ∙ ap (λ w. ltb w f) s ∙ y in clash (cc); below_rows = λ d x v y. let s : e ≡ d = cc in let z : false ≡ true = sym q ∙ ap (λ w. ltb w f) s ∙ y in clash (cc) }

pub floored_says : (f : ℕ) (r : Refusal) → Says f (number r) (number (floored f r)) (values r) (values (floored f r))
floored_says f BadName = same_says f 1 [] (λ h. omega arith) (λ h. omega arith)
floored_says f BadInterval = same_says f 2 [] (λ h. omega arith) (λ h. omega arith)
floored_says f OutsideSpan = same_says f 3 [] (λ h. omega arith) (λ h. omega arith)
floored_says f Silent = same_says f 4 [] (λ h. omega arith) (λ h. omega arith)
floored_says f (NoPage e) = edition_says f e 5 (BelowFloor e) (NoPage e) (ltb e f) refl (λ h. omega arith) (refl, refl) (refl, refl)
floored_says f (TooManyRows e) = edition_says f e 6 (BelowFloor e) (TooManyRows e) (ltb e f) refl (λ h. omega arith) (refl, refl) (refl, refl)
floored_says f (BelowFloor e) = same_says f 7 (e ∷ []) (λ h. omega arith) (λ h. omega arith)
floored_says f AlreadyPending = same_says f 8 [] (λ h. omega arith) (λ h. omega arith)
floored_says f NoFreeSlot = same_says f 9 [] (λ h. omega arith) (λ h. omega arith)
floored_says f NotPending = same_says f 10 [] (λ h. omega arith) (λ h. omega arith)
floored_says f NotHeld = same_says f 11 [] (λ h. omega arith) (λ h. omega arith)
floored_says f OutsideWindow = same_says f 12 [] (λ h. omega arith) (λ h. omega arith)
floored_says f NotATable = same_says f 13 [] (λ h. omega arith) (λ h. omega arith)
floored_says f DoesNotFit = same_says f 14 [] (λ h. omega arith) (λ h. omega arith)
floored_says f (BadText o) = same_says f 15 (o ∷ []) (λ h. omega arith) (λ h. omega arith)
floored_says f BufferTooShort = same_says f 16 [] (λ h. omega arith) (λ h. omega arith)

-- a refused reply
module _ (s : State) (k : ℕ) (i : Interval) (q : Request) (n n' : ℕ) (vs vs' : List ℕ) (says : Says s.floor n n' vs vs') where
  abbrev back : Step
  back = stays s (handed_back n' vs' k i)

  backs : (a : ℕ) (ws : List ℕ) → (n' ≡ a) × (vs' ≡ ws) → back ≡ stays s (handed_back a ws k i)
  backs a ws h = ap (λ x. stays s (handed_back x vs' k i)) h.0 ∙ ap (λ x. stays s (handed_back a x k i)) h.1

  by_floor : (e a : ℕ) (next : Step) (b : Bool) → ltb e s.floor ≡ b → n ≡ a → (a ≡ 5 → n ≡ 5) → vs ≡ e ∷ [] → (b ≡ true → (n' ≡ 7) × (vs' ≡ e ∷ [])) → next ≡ stays s (handed_back a (e ∷ []) k i) → back ≡ cond b (stays s (handed_back 7 (e ∷ []) k i)) next
  by_floor e a next true l h f v low x = backs 7 (e ∷ []) (low refl)
  by_floor e a next false l h f v low x = let y = says.above e v l in backs a (e ∷ []) (y.0 ∙ h, y.1 ∙ v) ∙ sym x

  refused_page : (e : ℕ) (page : Option Page) → refused n vs ≡ edition_answer e q page → q.interval ≡ i → back ≡ cond (ltb e s.floor) (stays s (handed_back 7 (e ∷ []) k i)) (taken s k i e page)
  refused_page e None h w =
      let a : n ≡ 5 = cc in
      let v : vs ≡ e ∷ [] = cc in
      by_floor e 5 (taken s k i e None) (ltb e s.floor) refl a (λ _. a) v (λ t. says.below e a v t) refl
  refused_page e (Some p) h w = many (leb (length (cut p.rows q.interval)) window_rows) refl h
    where
      many : (b : Bool) → leb (length (cut p.rows q.interval)) window_rows ≡ b → refused n vs ≡ cond b (cond (eqb p.tag q.known) (answered (unchanged e)) (answered (fresh e p.tag (cut p.rows q.interval)))) (refused 6 (e ∷ [])) → back ≡ cond (ltb e s.floor) (stays s (handed_back 7 (e ∷ []) k i)) (taken s k i e (Some p))
      many true t g = answer (eqb p.tag q.known) g
        where
          answer : (b : Bool) → refused n vs ≡ cond b (answered (unchanged e)) (answered (fresh e p.tag (cut p.rows q.interval))) → back ≡ cond (ltb e s.floor) (stays s (handed_back 7 (e ∷ []) k i)) (taken s k i e (Some p))
          answer true g = clash (cc)
          answer false g = clash (cc)
      many false t g =
          let a : n ≡ 6 = cc in
          let v : vs ≡ e ∷ [] = cc in
          let size : leb (length (cut p.rows i)) window_rows ≡ false = subst (λ (x : Interval). leb (length (cut p.rows x)) window_rows ≡ false) w t in
          by_floor e 6 (taken s k i e (Some p)) (ltb e s.floor) refl a (λ z. absurd (omega arith)) v (λ l. says.below_rows e a v l) (ap (λ b. cond b (accepted s k i e p) (stays s (handed_back 6 (e ∷ []) k i))) size)

  refused_turn : (e : ℕ) (page : Option Page) (b : Bool) → eqb e 0 ≡ b → refused n vs ≡ cond b (refused 4 []) (edition_answer e q page) → q.interval ≡ i → back ≡ cond b (stays s (handed_back 4 [] k i)) (cond (ltb e s.floor) (stays s (handed_back 7 (e ∷ []) k i)) (taken s k i e page))
  refused_turn e page true z h w = let a : n ≡ 4 = cc in let v : vs ≡ [] = cc in let y = says.silent a in backs 4 [] (y.0, y.1 ∙ v)
  refused_turn e page false z h w = refused_page e page h w

-- the same interval
interval_is : (j i : Interval) → same_interval j i ≡ true → j ≡ i
interval_is j i h = (decides_interval j i).0 h

-- a slot that is pending with the interval may be fetched for
ready_from : (m : Meaning) (n : Name) (i : Interval) (o : Option Interval) → is_pending o i ≡ true → ReadyIf m n o → Ready m n i
ready_from m n i None h r = let z : ◌≡◌ {A = Bool} false true = h in clash (cc)
ready_from m n i (Some j) h r = subst (Ready m n) (interval_is j i h) r

-- a copy that sent its tag is still good, where the page of the edition has that tag
module _ (m : Meaning) (sound : Sound m) (n : Name) (i : Interval) (e : ℕ) (p : Page) (paged : m.pages e n ≡ Some p) (cell : Cell) where
  abbrev with_page : Cell
  with_page = record { owner = cell.owner; copy = Some (record { edition = e; tag = p.tag; interval = i; rows = cut p.rows i }); pending = None }

  abbrev with_rows : ℕ → List Row → Cell
  with_rows t rows = record { owner = cell.owner; copy = Some (record { edition = e; tag = t; interval = i; rows = rows }); pending = None }

  still_good : (c : Copy) → Copied m n c → c.tag ≡ p.tag → within i c.interval ≡ true → with_rows c.tag (cut c.rows i) ≡ with_page
  still_good c d t w = ap (λ x. with_rows x (cut c.rows i)) t ∙ ap (with_rows p.tag) (held_cut m n c.edition c.tag c.interval c.rows e p i sound d paged (sym t) w)

  renewed_is : (c : Copy) (b : Bool) → within i c.interval ≡ b → p.tag ≡ cond b c.tag 0 → Copied m n c → (b ≡ true) × (cond b (record { owner = cell.owner; copy = Some (renewed i e c); pending = None }) cell ≡ with_page)
  renewed_is c true w t d = (refl, still_good c d (sym t) w)
  renewed_is c false w t d = let g = (sound.paged e n p paged).tagged in absurd (omega arith)

  renewal_is : (copy : Option Copy) → p.tag ≡ known_tag copy i → CopiedIf m n copy → (can_renew i copy ≡ true) × (renewal i e cell copy ≡ with_page)
  renewal_is None t d = let g = (sound.paged e n p paged).tagged in absurd (omega arith)
  renewal_is (Some c) t d =
      let r = renewed_is c (within i c.interval) refl t d in
      (r.0, r.1)

-- the collect by the rules, where the turn's page answers
module _ (m : Meaning) (s : State) (k : ℕ) (i : Interval) (n : Name) where
  turned : (e : ℕ) (p : Page) → m.turn n i ≡ e → 1 ≤ e → m.pages e n ≡ Some p → length (cut p.rows i) ≤ window_rows → collected_at s k i (m.turn n i) (m.pages (m.turn n i) n) ≡ cond (ltb e s.floor) (stays s (handed_back 7 (e ∷ []) k i)) (accepted s k i e p)
  turned e p t some page small =
      ap (λ x. collected_at s k i x (m.pages x n)) t ∙ ap (collected_at s k i e) page
      ∙ ap (λ b. cond b (stays s (handed_back 4 [] k i)) (cond (ltb e s.floor) (stays s (handed_back 7 (e ∷ []) k i)) (taken s k i e (Some p)))) (ne_eqb e 0 (λ z. absurd (omega arith)))
      ∙ ap (λ b. cond (ltb e s.floor) (stays s (handed_back 7 (e ∷ []) k i)) (cond b (accepted s k i e p) (stays s (handed_back 6 (e ∷ []) k i)))) (le-leb (length (cut p.rows i)) window_rows small)

-- the reply and the rules agree
module _ (m : Meaning) (sound : Sound m) (s : State) (k : ℕ) (i : Interval) (n : Name) (copied : CopiedIf m n (cell_at s k).copy) (ready : Ready m n i) where
  abbrev sent : Request
  sent = record { name = n; interval = i; known = known_tag (cell_at s k).copy i }

  abbrev by_rules : Step
  by_rules = collected_at s k i (m.turn n i) (m.pages (m.turn n i) n)

  took_unchanged : (e : ℕ) → fetched m sent ≡ answered (unchanged e) → cond (ltb e s.floor) (stays s (handed_back 7 (e ∷ []) k i)) (take_unchanged s k i e) ≡ by_rules
  took_unchanged e h =
      let a = answers_come_from_pages.from_unchanged m sent e h in
      let p = a.0 in
      let r = renewal_is m sound n i e p a.1.page (cell_at s k) (cell_at s k).copy a.2 copied in
      let held = ap (λ b. cond b (holds s k e (renewal i e (cell_at s k) (cell_at s k).copy)) (stays s (handed_back 4 [] k i))) r.0 ∙ ap (holds s k e) r.1 in
      ap (cond (ltb e s.floor) (stays s (handed_back 7 (e ∷ []) k i))) held ∙ sym (turned m s k i n e p a.1.turn a.1.some a.1.page a.1.small)

  took_fresh : (e g : ℕ) (w : Window) → fetched m sent ≡ answered (fresh e g (vec_items w.rows)) → w.interval ≡ i → cond (ltb e s.floor) (stays s (handed_back 7 (e ∷ []) k i)) (take_fresh s k e g w) ≡ by_rules
  took_fresh e g w h l =
      let a = answers_come_from_pages.from_fresh m sent e g (vec_items w.rows) h in
      let p = a.0 in
      let cell : ℕ → Interval → List Row → Step = λ t x rows. holds s k e (record { owner = (cell_at s k).owner; copy = Some (record { edition = e; tag = t; interval = x; rows = rows }); pending = None }) in
      let held = ap (λ t. cell t w.interval (vec_items w.rows)) (sym a.2) ∙ ap (λ x. cell p.tag x (vec_items w.rows)) l ∙ ap (cell p.tag i) a.3 in
      ap (cond (ltb e s.floor) (stays s (handed_back 7 (e ∷ []) k i))) held ∙ sym (turned m s k i n e p a.1.turn a.1.some a.1.page a.1.small)

  took_refused : (r : Refusal) → refused (number r) (values r) ≡ fetched m sent → stays s (handed_back (number (floored s.floor r)) (values (floored s.floor r)) k i) ≡ by_rules
  took_refused r h =
      let c = checked_next sent m.span (turn_answer (m.turn n i) sent (m.pages (m.turn n i) n)) (record { name = ready.name; era = ready.in_era; inside = ready.inside }) in
      refused_turn s k i sent (number r) (number (floored s.floor r)) (values r) (values (floored s.floor r)) (floored_says s.floor r) (m.turn n i) (m.pages (m.turn n i) n) (eqb (m.turn n i) 0) refl (h ∙ c) refl

  pub took : (r : Result Reply Refusal) (w w0 : Window) → judged r w ≡ fetched m sent → Leaves r i w0 w → take_reply s k i r w ≡ by_rules
  took (Ok (Unchanged e)) w w0 h l = took_unchanged e (sym h)
  took (Ok (Fresh e g)) w w0 h l = took_fresh e g w (sym h) l
  took (Err r) w w0 h l = took_refused r h

-- the collect of a slot that is pending
pub token_is : (m : Meaning) (s : State) (k : ℕ) (i : Interval) (n : Name) → is_pending (cell_at s k).pending i ≡ true → (cell_at s k).owner ≡ Some n → collect_token m s k i ≡ collected_at s k i (m.turn n i) (m.pages (m.turn n i) n)
token_is m s k i n p o = ap (collect_request m s k i) (request_is (cell_at s k) i n p o)

-- what the owner's cell agrees on
pub agrees_on : (m : Meaning) (s : State) (k : ℕ) (i : Interval) (n : Name) → Agrees m s → is_pending (cell_at s k).pending i ≡ true → (cell_at s k).owner ≡ Some n → CopiedIf m n (cell_at s k).copy × Ready m n i
agrees_on m s k i n a p o =
    let c = subst (λ (x : Option Name). CellAgrees m x (cell_at s k)) o (a k) in
    (c.0, ready_from m n i (cell_at s k).pending p c.1)

-- the collect of a slot that has no request
pub none_asked : (m : Meaning) (s : State) (k : ℕ) (i : Interval) → request_for (cell_at s k) i ≡ None → collect_token m s k i ≡ stays s (handed_back 10 [] k i)
none_asked m s k i h = ap (collect_request m s k i) h

-- what is asked by its request is what a collect asks
pub asked : {S : Type 0} (g : Ghosts S) (s : State) (k : ℕ) (i : Interval) (before after : S) (q : Option Request) → request_for (cell_at s k) i ≡ q → MatchOption q (after ≡ before) (λ x. g.after_fetch before x after) → Asked g s k i before after
asked g s k i before after q h a = subst (λ (o : Option Request). MatchOption o (after ≡ before) (λ x. g.after_fetch before x after)) (sym h) a
