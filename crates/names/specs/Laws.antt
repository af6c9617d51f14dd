-- What the test of names comes to, in the words of the subject. Assumes nothing.
use Rattle.std.specs.Prelude.{◌≡◌, ℕ, ◌<◌, ◌≤◌, true, List, length, Decides, slice_index}
use Rattle.names.specs.Names.{name_byte, is_name, is_text, held, spelled}

-- of these bytes the first n, at least one, are name bytes, and the others are zero
pub record Spells (bytes : List ℕ) (n : ℕ) : Type 0 where
  pub some : 1 ≤ n
  pub few : n ≤ length bytes
  pub front : (k : ℕ) → k < n → name_byte (slice_index bytes k) ≡ true
  pub rest : (k : ℕ) → n ≤ k → k < length bytes → slice_index bytes k ≡ 0

pub record NamesStand : Type 0 where
  pub valid : (bytes : List ℕ) → Decides (is_name bytes) ((n : ℕ) × Spells bytes n)
  pub texts : (text : List ℕ) → is_name (held text) ≡ is_text text
  pub back : (text : List ℕ) → is_text text ≡ true → spelled (held text) ≡ text
