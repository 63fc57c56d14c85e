-- The laws of the crates below that the laws here stand on, in one record: each is what a public function
-- of those crates ensures.
use Rattle.stream_fold.specs.Laws.{HolesStay, PutsStay, FittingRise, KeptRise, KeptAreReached, KeptWerePut, MirrorsOutlast, MirrorsStay, MirrorsStore, SourcesOutlast, SourcesStay, SourcesBind, SourcesStore}
use Rattle.stream_fold.specs.FactLaws.{FactsGrow, FactsTell, FactsTellFits}
use Rattle.push_consumer.specs.Laws.{SendsWhatIsWanted, NewIsRight, PumpsKeep, AnswersKeep, BeatsKeep, PausesKeep, LongerKeep}
use Rattle.shard_machine.specs.ImageLaws.{ImageGrows, ImagesTell, NamesRise, ImagesTellLegal, LegalFit}
use Rattle.shard_machine.specs.StepLaws.{StepsFollowLogs}

pub record Laws : Type 0 where
  pub holes : HolesStay
  pub puts : PutsStay
  pub fitting : FittingRise
  pub kept_rise : KeptRise
  pub kept_reached : KeptAreReached
  pub kept_put : KeptWerePut
  pub mirrors_outlast : MirrorsOutlast
  pub mirrors_stay : MirrorsStay
  pub mirrors_store : MirrorsStore
  pub sources_outlast : SourcesOutlast
  pub sources_stay : SourcesStay
  pub sources_bind : SourcesBind
  pub sources_store : SourcesStore
  pub facts_grow : FactsGrow
  pub facts_tell : FactsTell
  pub facts_fit : FactsTellFits
  pub wanted : SendsWhatIsWanted
  pub new_right : NewIsRight
  pub pumps_right : PumpsKeep
  pub answers_right : AnswersKeep
  pub beats_right : BeatsKeep
  pub pauses_right : PausesKeep
  pub longer_right : LongerKeep
  pub images_grow : ImageGrows
  pub images_tell : ImagesTell
  pub names_rise : NamesRise
  pub images_legal : ImagesTellLegal
  pub legal_fit : LegalFit
  pub steps_follow : StepsFollowLogs
