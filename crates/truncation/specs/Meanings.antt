-- What a truncation means, and that it is sound. The lemmas stand here and not in proofs/, since the proof of a law names none of proofs/. Assumes nothing.
use Rattle.std.specs.Prelude.{◌≡◌, ℕ, true, Some, None, Option, refl}
use Rattle.std.proofs.Common.{sym, ap, ◌∙◌, subst, arith}
use Rattle.names.specs.declared.name.Name.{Name}
use Rattle.zone.specs.declared.rows.Interval.{Interval}
use Rattle.zone.specs.Intervals.{era, within}
use Rattle.cutting.specs.Cutting.{cut}
use Rattle.cutting.proofs.Clipping.{cuts_agree, within_trans}
use Rattle.provider.specs.Meaning.{Page, Meaning, Paged, Sound}
use Rattle.truncation.specs.Truncating.{cut_page}

-- a page, cut to the span
abbrev pub cut_to : Interval → Page → Page
cut_to span p = record { tag = p.tag; rows = cut p.rows span }

-- what the truncation of a provider means
abbrev pub truncated : Meaning → Interval → Meaning
truncated m span = record { span = span; count = m.count; pages = λ e n. cut_page span (m.pages e n); turn = m.turn }

-- a page of the truncation is the cut of one below
page_below : (span : Interval) (o : Option Page) (p : Page) → cut_page span o ≡ Some p → (b : Page) × (o ≡ Some b) × (p ≡ cut_to span b)
page_below span None p h = let z : ◌≡◌ {A = ℕ} 0 1 = cc in absurd (omega arith)
page_below span (Some b) p h = (b, refl, cc)

module _ (m : Meaning) (span : Interval) (sound : Sound m) (inside : within span m.span ≡ true) where
  paged : (e : ℕ) (n : Name) (p : Page) → cut_page span (m.pages e n) ≡ Some p → Paged span m.count e p
  paged e n p h =
      let b = page_below span (m.pages e n) p h in
      let d = sound.paged e n b.0 b.1 in
      let laws = cuts_agree m.span b.0.rows span d.covers inside in
      subst (λ x. Paged span m.count e x) (sym b.2) (record {
        some = d.some;
        last = d.last;
        tagged = d.tagged;
        tag_last = d.tag_last;
        covers = laws.covers;
        few = omega (arith, laws.short, d.few);
      })

  one_table : (e f : ℕ) (n : Name) (p q : Page) → cut_page span (m.pages e n) ≡ Some p → cut_page span (m.pages f n) ≡ Some q → p.tag ≡ q.tag → p.rows ≡ q.rows
  one_table e f n p q h k t =
      let b = page_below span (m.pages e n) p h in
      let d = page_below span (m.pages f n) q k in
      let same = sound.one_table e f n b.0 d.0 b.1 d.1 (sym (ap (λ x. x.tag) b.2) ∙ t ∙ ap (λ x. x.tag) d.2) in
      ap (λ x. x.rows) b.2 ∙ ap (λ rows. cut rows span) same ∙ sym (ap (λ x. x.rows) d.2)

  pub truncated_sound : Sound (truncated m span)
  truncated_sound = record {
    in_era = within_trans span m.span era inside sound.in_era;
    few = sound.few;
    turns = sound.turns;
    paged = paged;
    one_table = one_table;
  }
