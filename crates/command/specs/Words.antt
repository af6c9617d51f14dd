-- Bytes split at a byte, and lines split into words. Assumes nothing.
use Rattle.std.specs.Prelude.{ℕ, not, List, drop, ◌==◌}
use Rattle.std.specs.List.{after_first, before_first, position_or_len}

-- the bytes before the first such byte; all where there is none
abbrev pub before : ℕ → List ℕ → List ℕ
before mark bytes = before_first (λ b. b == mark) bytes

-- the bytes after the first such byte; none where there is none
abbrev pub after : ℕ → List ℕ → List ℕ
after mark bytes = after_first (λ b. b == mark) bytes

-- the bytes from the first on that is no space
abbrev pub trimmed : List ℕ → List ℕ
trimmed bytes = drop (position_or_len (λ b. not (b == 32)) bytes) bytes

-- the first word
abbrev pub word : List ℕ → List ℕ
word bytes = before 32 (trimmed bytes)

-- what stands after the first word and its space
abbrev pub rest : List ℕ → List ℕ
rest bytes = after 32 (trimmed bytes)
