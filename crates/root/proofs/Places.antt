-- The search for the latest entry of a name, entry by entry. Assumes nothing.
use Rattle.std.proofs.Common.{◌≡◌, ℕ, ◌+◌, ◌<◌, ◌≤◌, ◌≢◌, List, Contains, length, get_or, take, IfSome, Some, None, Option, Bor, sym, ap, ◌∙◌}
use Rattle.std.specs.Option.{option_map}
use Rattle.std.proofs.lemmas.List.{map_more, take_all}
use Rattle.std.proofs.lemmas.List.Sums.{fold_push}
use Rattle.names.specs.declared.name.Name.{Name}
use Rattle.zone.specs.declared.rows.Row.{Row}
use Rattle.root.specs.declared.entries.Entry.{Entry}
use Rattle.root.specs.Logs.{publication, log, newer, latest}
use Rattle.root.specs.Latest.{newer_yes, newer_no}

-- what was found among the first i entries
pub record Seen (entries : List Entry) (n : Name) (i : ℕ) (found : Option (Bor Entry)) : Type 0 where
  pub within : IfSome found (λ e. Contains entries e.now)
  pub latest : (storage : List Row) → latest n (log (take i entries) storage) ≡ option_map (λ e. publication storage e.now) found

-- one entry more
module _ (entries : List Entry) (n : Name) (i : ℕ) (found : Option (Bor Entry)) (e : Bor Entry) (l : i < length entries) (read : e.now ≡ get_or entries i e.now) (seen : Seen entries n i found) where
  more : (storage : List Row) → latest n (log (take (i + 1) entries) storage) ≡ newer n (latest n (log (take i entries) storage)) (publication storage e.now)
  more storage =
      ap (latest n) (map_more (publication storage) entries i e.now l) ∙ (fold_push (newer n) None (log (take i entries) storage) (publication storage (get_or entries i e.now)) ∙ ap (λ x. newer n (latest n (log (take i entries) storage)) (publication storage x)) (sym read))

  pub seen_yes : e.now.name ≡ n → Seen entries n (i + 1) (Some e)
  seen_yes q = record { within = (i, l, sym read); latest = λ storage. more storage ∙ newer_yes n (latest n (log (take i entries) storage)) (publication storage e.now) q }

  pub seen_no : (e.now.name ≢ n) → Seen entries n (i + 1) found
  seen_no q = record { within = seen.within; latest = λ storage. more storage ∙ (newer_no n (latest n (log (take i entries) storage)) (publication storage e.now) q ∙ seen.latest storage) }

pub seen_all : (entries : List Entry) (n : Name) (i : ℕ) (found : Option (Bor Entry)) → length entries ≤ i → Seen entries n i found → (storage : List Row) → latest n (log entries storage) ≡ option_map (λ e. publication storage e.now) found
seen_all entries n i found l seen storage = ap (λ es. latest n (log es storage)) (sym (take_all i entries l)) ∙ seen.latest storage
