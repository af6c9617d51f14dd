-- The commands that lines spell. Assumes nothing.
use denote.Ref.{Bor}
use Rattle.std.specs.Prelude.{◌≡◌, ℕ, false, [], MatchOption, Bool, if◌then◌else◌, not, ◌&&◌, List, length, Some, None, codes, Option, ◌==◌, slice_index}
use Rattle.std.specs.Option.{option_map}
use Rattle.std.specs.Str.{bytes_eq}
use Rattle.names.specs.declared.name.Name.{Name}
use Rattle.zone.specs.declared.rows.Interval.{Interval}
use Rattle.zone.specs.declared.rows.Observance.{Observance}
use Rattle.zone.specs.declared.rows.Observance.TheVariants.{Standard, Daylight}
use Rattle.zone.specs.declared.rows.Row.{Row}
use Rattle.names.specs.Names.{held}
use Rattle.client.specs.declared.listing.Call.{Call}
use Rattle.client.specs.declared.listing.Call.TheVariants.{Begin, Collect, Abandon, Forget, Query}
use Rattle.command.specs.declared.lines.Command.{Command}
use Rattle.command.specs.declared.lines.Command.TheVariants.{Store, Truncate, Uplink, Downlink, Gather, Publish, Make}
use Rattle.command.specs.declared.lines.Stay.{Stay}
use Rattle.command.specs.declared.lines.Storage.{Storage}
use Rattle.command.specs.Numbers.{count, number}
use Rattle.command.specs.Words.{rest, trimmed, word}

-- what comes of a value, where there is one
abbrev pub bind : {A B : Type 0} → Option A → (A → Option B) → Option B
bind None f = None
bind (Some x) f = f x

-- there is no word
abbrev pub blank : List ℕ → Bool
blank line = length (trimmed line) == 0

-- a word was read, and what stands after it is left; or there was none, and the line stays as it is
abbrev pub NextWord : List ℕ → Option (Bor (List ℕ)) → List ℕ → Type 0
NextWord line next left = MatchOption next ((trimmed line ≡ []) × (left ≡ line)) (λ first. (blank line ≡ false) × (first.now ≡ word line) × (left ≡ rest line))

-- there is one word
abbrev pub is_lone : List ℕ → Bool
is_lone words = not (blank words) && blank (rest words)

-- the name with a text; the blank name where the text is no name's
abbrev pub name_of : List ℕ → Name
name_of text = record { bytes = held text }

-- the observance of a row: 0 or 1
abbrev pub day : List ℕ → Option Observance
day digit =
    if length digit == 1
    then (if slice_index digit 0 == 48 then Some Standard else (if slice_index digit 0 == 49 then Some Daylight else None))
    else None

-- the four words of a row
abbrev pub row : List ℕ → Option Row
row words =
    bind (number 63 (word words)) (λ onset.
    bind (number 31 (word (rest words))) (λ from.
    bind (number 31 (word (rest (rest words)))) (λ to.
    bind (day (word (rest (rest (rest words))))) (λ observance.
    if blank (rest (rest (rest (rest words)))) then Some (record { onset = onset; from = from; to = to; observance = observance }) else None))))

-- the two words of a storage
abbrev pub storage : List ℕ → Option Storage
storage words =
    bind (count (word words)) (λ entries.
    bind (count (word (rest words))) (λ rows.
    if blank (rest (rest words)) then Some (record { entries = entries; rows = rows }) else None))

-- the two words of an interval
abbrev pub interval : List ℕ → Option Interval
interval words =
    bind (number 63 (word words)) (λ start.
    bind (number 63 (word (rest words))) (λ end.
    if blank (rest (rest words)) then Some (record { start = start; end = end }) else None))

-- the only word, as a name
abbrev pub lone_name : List ℕ → Option Name
lone_name words = if is_lone words then Some (name_of (word words)) else None

-- a name and an interval
abbrev pub stay : List ℕ → Option Stay
stay words = option_map (λ i. record { name = name_of (word words); interval = i }) (interval (rest words))

-- a name and an instant
abbrev pub question : List ℕ → Option Call
question words =
    bind (number 63 (word (rest words))) (λ t.
    if blank (rest (rest words)) then Some (Query (name_of (word words)) (record { 0 = t })) else None)

-- the call on the client of a word and the words after it
abbrev pub call : List ℕ → List ℕ → Option Call
call first others =
    if bytes_eq first (codes "begin") then option_map (λ s. Begin s.name s.interval) (stay others)
    else (if bytes_eq first (codes "collect") then option_map Collect (lone_name others)
    else (if bytes_eq first (codes "abandon") then option_map Abandon (lone_name others)
    else (if bytes_eq first (codes "forget") then option_map Forget (lone_name others)
    else (if bytes_eq first (codes "query") then question others else None))))

-- the setting of a word and the words after it, or else the call on the client
abbrev pub setting : List ℕ → List ℕ → Option Command
setting first others =
    if bytes_eq first (codes "root") then option_map Store (storage others)
    else (if bytes_eq first (codes "span") then option_map Truncate (interval others)
    else (if bytes_eq first (codes "uplink") && is_lone others then Some Uplink
    else (if bytes_eq first (codes "downlink") && is_lone others then Some Downlink else option_map Make (call first others))))

-- the command of a line
abbrev pub command : List ℕ → Option Command
command line =
    if bytes_eq (word line) (codes "row") then option_map Gather (row (rest line))
    else (if bytes_eq (word line) (codes "publish") then option_map Publish (stay (rest line))
    else setting (word line) (rest line))
