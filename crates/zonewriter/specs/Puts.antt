-- Bytes put into a buffer. Assumes nothing.
use Rattle.std.specs.Prelude.{◌≡◌, ℕ, ◌+◌, ◌≤◌, List, ◌++◌, length, take, drop}
use Rattle.zonewriter.specs.declared.putting.Writer.{Writer}

-- the bytes s fit after what is written
abbrev pub HasRoom : Writer → List ℕ → Type 0
HasRoom w s = w.len + length s ≤ length w.buffer.now

-- the buffer with the bytes s in place of what stood from a on
abbrev pub placed : List ℕ → ℕ → List ℕ → List ℕ
placed buffer a s = take a buffer ++ (s ++ drop (a + length s) buffer)

-- the bytes s were put after what was written
pub record Puts (was : Writer) (s : List ℕ) (is : Writer) : Type 0 where
  pub len : is.len ≡ was.len + length s
  pub bytes : is.buffer.now ≡ placed was.buffer.now was.len s
  pub size : length is.buffer.now ≡ length was.buffer.now
