-- A log in order means what a provider's meaning must keep. The lemmas behind it stand in specs/ and not in proofs/, since the proof of a law names none of proofs/. Assumes nothing.
use Rattle.std.specs.Prelude.{◌≡◌, ℕ, ◌<◌, ◌≤◌, List, length, refl}
use Rattle.std.proofs.Common.{sym, ap, subst, ◌∙◌, arith}
use Rattle.names.specs.declared.name.Name.{Name}
use Rattle.zone.specs.Intervals.{era}
use Rattle.zone.specs.Rows.{Covers, table_rows}
use Rattle.provider.specs.Meaning.{Page, Meaning, Paged, last_edition}
use Rattle.provider.specs.Meaning as meaning
use Rattle.root.specs.Logs.{Publication, at, pages}
use Rattle.root.specs.Order.{InOrder}
use Rattle.root.specs.Latest.{From, page_from}
use Rattle.root.specs.Tagging.{tag_within, tag_one_table}

-- a log in order means what a provider's meaning must keep
pub sound_log : (log : List Publication) (count : ℕ) → count ≡ length log → count ≤ last_edition → InOrder log → meaning.Sound (record { span = era; count = count; pages = pages log; turn = λ _ _. count })
sound_log log count c l o =
    record {
      in_era = refl;
      few = l;
      turns = λ n i. omega arith;
      paged = λ e n p q. paged e n p (page_from log e n p q);
      one_table = λ e f n p q a b t. one e f n p q (page_from log e n p a) (page_from log f n q b) t;
    }
  where
    paged : (e : ℕ) (n : Name) (p : Page) → From log e n p → Paged era count e p
    paged e n p f =
        let k : f.place < length log = omega (arith, f.before.earlier, f.last) in
        let w = tag_within log o f.place k in
        let s = o.tables f.place k in
        let t : (at log f.place).tag ≡ p.tag = ap (λ (x : Page). x.tag) f.page in
        let r : (at log f.place).rows ≡ p.rows = ap (λ (x : Page). x.rows) f.page in
        record { some = f.some; last = omega (arith, f.last); tagged = omega (arith, w.0); tag_last = omega (arith, w.1, f.before.earlier); covers = subst (λ x. Covers era x) r s.covers; few = subst (λ x. length x ≤ table_rows) r s.few }

    one : (e f : ℕ) (n : Name) (p q : Page) → From log e n p → From log f n q → p.tag ≡ q.tag → p.rows ≡ q.rows
    one e f n p q a b t =
        let k : a.place < length log = omega (arith, a.before.earlier, a.last) in
        let j : b.place < length log = omega (arith, b.before.earlier, b.last) in
        let same_tag : (at log a.place).tag ≡ (at log b.place).tag = ap (λ (x : Page). x.tag) a.page ∙ (t ∙ sym (ap (λ (x : Page). x.tag) b.page)) in
        sym (ap (λ (x : Page). x.rows) a.page) ∙ (tag_one_table log o a.place b.place k j (a.before.name ∙ sym b.before.name) same_tag ∙ ap (λ (x : Page). x.rows) b.page)
