-- The texts of the input, each after a line that tells its length. Assumes nothing.
use Rattle.std.specs.Prelude.{ℕ, ◌+◌, ◌-◌, ◌*◌, Bool, if◌then◌else◌, ◌&&◌, List, [], ◌∷◌, length, take, drop, Some, None, codes, Option, ◌==◌, nat_le, slice_index}
use Rattle.std.specs.Str.{bytes_eq}
use Rattle.copies.specs.declared.heads.Head.{Head}
use Rattle.copies.specs.declared.heads.Part.{Part}

-- a decimal digit
abbrev pub is_digit : ℕ → Bool
is_digit b = nat_le 48 b && nat_le b 57

-- the number after one more digit
abbrev pub next : ℕ → ℕ → ℕ
next n b = 10 * n + (b - 48)

-- the most bytes that a head line may tell
abbrev pub most_bytes : ℕ
most_bytes = 1000000000

-- that number, where the byte is a digit and no more bytes are told than may be
abbrev pub one_more : ℕ → ℕ → Option ℕ
one_more n b = if is_digit b && nat_le (next n b) most_bytes then Some (next n b) else None

-- the number that the digits before the first LF spell after those of n, and the bytes after the LF
abbrev pub counted_after : ℕ → List ℕ → Option (ℕ × List ℕ)
counted_after n [] = None
counted_after n (b ∷ bs) = if b == 10 then Some (n, bs) else if is_digit b && nat_le (next n b) most_bytes then counted_after (next n b) bs else None

-- what comes of a number and bytes, where there are such
abbrev pub bind : Option (ℕ × List ℕ) → (ℕ → List ℕ → Option (List ℕ × List ℕ)) → Option (List ℕ × List ℕ)
bind None f = None
bind (Some (n, bs)) f = f n bs

-- the length that the head line tells, a digit or more after `text` and a space, and the bytes after the line
abbrev pub told : List ℕ → Option (ℕ × List ℕ)
told bytes = if bytes_eq (take 5 bytes) (codes "text ") && is_digit (slice_index bytes 5) then counted_after 0 (drop 5 bytes) else None

-- so many bytes, and the bytes after them, where there are so many
abbrev pub parted : ℕ → List ℕ → Option (List ℕ × List ℕ)
parted n bytes = if nat_le n (length bytes) then Some (take n bytes, drop n bytes) else None

-- the first text of the input, and the bytes after it
abbrev pub first : List ℕ → Option (List ℕ × List ℕ)
first input = bind (told input) parted

-- a head of the code
abbrev pub head_seen : Option Head → Option (ℕ × List ℕ)
head_seen None = None
head_seen (Some h) = Some (h.len, h.rest.now)

-- a part of the code
abbrev pub part_seen : Option Part → Option (List ℕ × List ℕ)
part_seen None = None
part_seen (Some p) = Some (p.text.now, p.more.now)
