-- What the request of a slot tells of it. Assumes nothing.
use Rattle.std.proofs.Common.{◌≡◌, ℕ, Bool, true, false, if◌then◌else◌, Some, None, Option, refl, ap, ◌∙◌, arith}
use Rattle.names.specs.declared.name.Name.{Name}
use Rattle.zone.specs.declared.rows.Interval.{Interval}
use Rattle.provider.specs.declared.requests.Request.{Request}
use Rattle.history.specs.Cells.{Cell}
use Rattle.history.specs.Steps.{known_tag}
use Rattle.slots.specs.Told.{is_pending, request_for, request_of}

-- the slot is pending with the interval, and the request is its owner's
pub record Requests (c : Cell) (i : Interval) (q : Request) : Type 0 where
  pub name : Name
  pub pending : is_pending c.pending i ≡ true
  pub owner : c.owner ≡ Some name
  pub request : record { name = name; interval = i; known = known_tag c.copy i } ≡ q

pub request_says : (c : Cell) (i : Interval) (q : Request) → request_for c i ≡ Some q → Requests c i q
request_says c i q h = by (is_pending c.pending i) refl h
  where
    owned : (o : Option Name) → c.owner ≡ o → is_pending c.pending i ≡ true → request_of o c.copy i ≡ Some q → Requests c i q
    owned None e p g = let z : ◌≡◌ {A = ℕ} 0 1 = cc in absurd (omega arith)
    owned (Some n) e p g = record { name = n; pending = p; owner = e; request = cc }

    by : (b : Bool) → is_pending c.pending i ≡ b → (if b then request_of c.owner c.copy i else None) ≡ Some q → Requests c i q
    by true p g = owned c.owner refl p g
    by false p g = let z : ◌≡◌ {A = ℕ} 0 1 = cc in absurd (omega arith)

-- the request of a slot that is pending
pub request_is : (c : Cell) (i : Interval) (n : Name) → is_pending c.pending i ≡ true → c.owner ≡ Some n → request_for c i ≡ Some (record { name = n; interval = i; known = known_tag c.copy i })
request_is c i n p o = ap (λ b. if b then request_of c.owner c.copy i else None) p ∙ ap (λ x. request_of x c.copy i) o
