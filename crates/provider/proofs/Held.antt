-- What is held of a page goes on being from the record. Assumes nothing.
use Rattle.std.proofs.Common.{◌≡◌, ℕ, true, List, Some, sym, ap, ◌∙◌, subst}
use Rattle.names.specs.declared.name.Name.{Name}
use Rattle.zone.specs.declared.rows.Interval.{Interval}
use Rattle.zone.specs.declared.rows.Row.{Row}
use Rattle.zone.specs.Intervals.{within}
use Rattle.cutting.specs.Cutting.{cut}
use Rattle.cutting.proofs.Clipping.{cuts_agree}
use Rattle.provider.specs.Holding.{FromPage}
use Rattle.provider.specs.Meaning.{Page, Meaning, Keeps, Sound}

-- the cut of what is held is the cut of any page of the zone with the same tag
pub held_cut : (m : Meaning) (n : Name) (edition tag : ℕ) (i : Interval) (rows : List Row) (other : ℕ) (p : Page) (inner : Interval) → Sound m → FromPage m n edition tag i rows → m.pages other n ≡ Some p → p.tag ≡ tag → within inner i ≡ true → cut rows inner ≡ cut p.rows inner
held_cut m n edition tag i rows other p inner sound h paged t w =
    let same : h.page.rows ≡ p.rows = sound.one_table edition other n h.page p h.paged paged (h.tagged ∙ sym t) in
    let covers = (sound.paged edition n h.page h.paged).covers in
    let again = (cuts_agree m.span h.page.rows i covers h.inside).again inner w in
    ap (λ x. cut x inner) h.is_cut ∙ again ∙ ap (λ x. cut x inner) same

-- what was from the record is from it after a call
pub held_on : (m m' : Meaning) (n : Name) (edition tag : ℕ) (i : Interval) (rows : List Row) → Sound m → Keeps m m' → FromPage m n edition tag i rows → FromPage m' n edition tag i rows
held_on m m' n edition tag i rows sound keeps h =
    record {
      page = h.page;
      paged = keeps.same edition n (sound.paged edition n h.page h.paged).last ∙ h.paged;
      tagged = h.tagged;
      is_cut = h.is_cut;
      inside = subst (λ (x : Interval). within i x ≡ true) (sym keeps.span) h.inside;
    }
