-- A provider's ghost members as one meaning. Assumes nothing.
use Rattle.provider.specs.Meaning.{Meaning, means}
use Rattle.provider.specs.declared.providers.Provider.{Ghosts}

-- what the provider means in this state
abbrev pub meaning : {S : Type 0} → Ghosts S → S → Meaning
meaning g s = means g.span g.count g.pages g.turn s
