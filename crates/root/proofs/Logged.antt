-- The laws of logs, and the page of the last edition. Assumes nothing.
use Rattle.std.specs.Prelude.{◌≡◌, ℕ, ◌+◌, ◌<◌, false, cond, ◌&&◌, List, length, Some, None, ◌≢◌, nat_le}
use Rattle.std.proofs.Common.{ap, ◌∙◌, arith}
use Rattle.std.specs.Option.{option_map}
use Rattle.std.proofs.lemmas.List.{take_all}
use Rattle.std.proofs.lemmas.Bool.Decides.{nat_tests}
use Rattle.names.specs.declared.name.Name.{Name}
use Rattle.zone.proofs.Compared.{rows_differ}
use Rattle.root.specs.Laws.{LastBefore, NoneBefore, PagesAreLatest, TagsAreFirstNumbers}
use Rattle.root.specs.Logs.{Publication, at, latest, page, pages}
use Rattle.root.specs.Order.{InOrder}
use Rattle.root.specs.Latest.{latest_last, latest_none, latest_found, pages_in}
use Rattle.root.specs.Tagging.{tag_is, tag_same, tag_within, tag_one_table}

-- the page of the last edition
pub pages_last : (log : List Publication) (count : ℕ) (n : Name) → count ≡ length log → pages log count n ≡ option_map page (latest n log)
pages_last log count n c = pages_in log count n (omega arith) ∙ ap (λ xs. option_map page (latest n xs)) (take_all count log (omega arith))

-- the latest publication of a name stands in the log
pub latest_stands : (log : List Publication) (n : Name) (p : Publication) → latest n log ≡ Some p → (j : ℕ) × (j < length log) × (at log j ≡ p)
latest_stands log n p q =
    let f = latest_found log n (length log) p (omega arith) (ap (latest n) (take_all (length log) log (omega arith)) ∙ q) in
    (f.0, f.1.earlier, f.2)

pub pages_past : (log : List Publication) (e : ℕ) (n : Name) → length log < e → pages log e n ≡ None
pages_past log e n l =
    let s : (nat_le 1 e && nat_le e (length log)) ≡ false = grind (arith, nat_tests) in
    rw s

pub pages_are_latest : PagesAreLatest
pages_are_latest = record {
  some = λ log n e j l b. pages_in log e n l ∙ ap (option_map page) (latest_last log n j e l b);
  none = λ log n e l b. pages_in log e n l ∙ ap (option_map page) (latest_none log n e l b);
  past = λ log n e l. pages_past log e n l;
}

module _ (log : List Publication) (order : InOrder log) where
  pub tag_first : (k : ℕ) → k < length log → NoneBefore log (at log k).name k → (at log k).tag ≡ k + 1
  tag_first k l b = tag_is log order k l None (latest_none log (at log k).name k (omega arith) b)

  pub tag_changed : (k j : ℕ) → k < length log → LastBefore log (at log k).name k j → ((at log j).rows ≢ (at log k).rows) → (at log k).tag ≡ k + 1
  tag_changed k j l b n =
      tag_is log order k l (Some (at log j)) (latest_last log (at log k).name j k (omega arith) b) ∙ ap (λ x. cond x (at log j).tag (k + 1)) (rows_differ (at log j).rows (at log k).rows n)

pub tags_are_first_numbers : TagsAreFirstNumbers
tags_are_first_numbers = record {
  first = λ log k o l b. tag_first log o k l b;
  changed = λ log k j o l b n. tag_changed log o k j l b n;
  same = λ log k j o l b q. tag_same log o k j l b q;
  within = λ log k o l. tag_within log o k l;
  one_table = λ log k j o l i n t. tag_one_table log o k j l i n t;
}
