-- A provider's ghost members as the source of a history. Assumes nothing.
use Rattle.std.specs.Prelude.{ℕ, Bool, false}
use Rattle.names.specs.declared.name.Name.{Name}
use Rattle.zone.specs.declared.windows.Table.{Table}
use Rattle.provider.specs.Whole.{meaning}
use Rattle.provider.specs.declared.providers.Provider.{Ghosts as ProviderGhosts}
use Rattle.provider.specs.declared.publishing.Publishing.{Ghosts as PublishingGhosts}
use Rattle.history.specs.Histories.{Source}

-- a provider, with which tables fit and how a publication moves it
abbrev pub source_of : {S : Type 0} → ProviderGhosts S → (S → ℕ → Bool) → (S → Name → Table → S → Type 0) → Source S
source_of g fits after_publish = record { meaning = meaning g; in_order = g.in_order; after_fetch = g.after_fetch; fits = fits; after_publish = after_publish }

-- a provider that takes no publications
abbrev pub source : {S : Type 0} → ProviderGhosts S → Source S
source g = source_of g (λ s n. false) (λ s n t s'. ⊥)

-- a provider that takes publications
abbrev pub publishing_source : {S : Type 0} → ProviderGhosts S → PublishingGhosts S → Source S
publishing_source g h = source_of g h.fits h.after_publish
