-- What the pages and tags of a log come to, in the words of the subject. Assumes nothing.
use Rattle.std.specs.Prelude.{◌≡◌, ℕ, ◌+◌, ◌<◌, ◌≤◌, List, length, Some, None, ◌≢◌}
use Rattle.names.specs.declared.name.Name.{Name}
use Rattle.root.specs.Logs.{Publication, at, page, pages}
use Rattle.root.specs.Order.{InOrder}

-- the publication at place j is the last of the name before place k
pub record LastBefore (log : List Publication) (n : Name) (k j : ℕ) : Type 0 where
  pub earlier : j < k
  pub name : (at log j).name ≡ n
  pub last : (i : ℕ) → j < i → i < k → (at log i).name ≢ n

-- no publication before place k is of the name
abbrev pub NoneBefore : List Publication → Name → ℕ → Type 0
NoneBefore log n k = (i : ℕ) → i < k → (at log i).name ≢ n

-- an edition's page is that of the name's last publication up to it
pub record PagesAreLatest : Type 0 where
  pub some : (log : List Publication) (n : Name) (e j : ℕ) → e ≤ length log → LastBefore log n e j → pages log e n ≡ Some (page (at log j))
  pub none : (log : List Publication) (n : Name) (e : ℕ) → e ≤ length log → NoneBefore log n e → pages log e n ≡ None
  pub past : (log : List Publication) (n : Name) (e : ℕ) → length log < e → pages log e n ≡ None

-- the tag of a publication is its own number if the name had no table before or another one, else the tag of the name's publication before
pub record TagsAreFirstNumbers : Type 0 where
  pub first : (log : List Publication) (k : ℕ) → InOrder log → k < length log → NoneBefore log (at log k).name k → (at log k).tag ≡ k + 1
  pub changed : (log : List Publication) (k j : ℕ) → InOrder log → k < length log → LastBefore log (at log k).name k j → ((at log j).rows ≢ (at log k).rows) → (at log k).tag ≡ k + 1
  pub same : (log : List Publication) (k j : ℕ) → InOrder log → k < length log → LastBefore log (at log k).name k j → (at log j).rows ≡ (at log k).rows → (at log k).tag ≡ (at log j).tag
  pub within : (log : List Publication) (k : ℕ) → InOrder log → k < length log → (1 ≤ (at log k).tag) × ((at log k).tag ≤ k + 1)
  pub one_table : (log : List Publication) (k j : ℕ) → InOrder log → k < length log → j < length log → (at log k).name ≡ (at log j).name → (at log k).tag ≡ (at log j).tag → (at log k).rows ≡ (at log j).rows

-- the pages and the tags of every log
pub record LogStands : Type 0 where
  pub pages : PagesAreLatest
  pub tags : TagsAreFirstNumbers
