-- Names, compared. Assumes nothing.
use Rattle.std.specs.Prelude.{◌≡◌, ℕ, Bool, true, false, ◌&&◌, ◌||◌, ◌⊎◌, List, [], ◌∷◌, ◌==◌, ◌≢◌, nat_lt}
use Rattle.std.specs.Str.{bytes_eq}
use Rattle.names.specs.declared.name.Name.{Name}

-- the two names are the same
abbrev pub same_name : Name → Name → Bool
same_name a b = bytes_eq a.bytes b.bytes

-- strictly before in byte order: at the first difference the byte is smaller, or all bytes agree and there are fewer
abbrev pub before : List ℕ → List ℕ → Bool
before [] [] = false
before [] (y ∷ ys) = true
before (x ∷ xs) [] = false
before (x ∷ xs) (y ∷ ys) = nat_lt x y || (x == y && before xs ys)

-- byte order is strict, and of two lists of bytes that differ one comes before the other
pub record NamesOrdered : Type 0 where
  pub never : (a : List ℕ) → before a a ≡ false
  pub chain : (a b c : List ℕ) → before a b ≡ true → before b c ≡ true → before a c ≡ true
  pub some : (a b : List ℕ) → (a ≢ b) → (before a b ≡ true) ⊎ (before b a ≡ true)
