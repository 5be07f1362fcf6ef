-- The law, from the lemmas on one step more.
use Rattle.revision_diagram.proofs.Stories.{story-step, events-step, last_story-told, story-untold}
use Rattle.revision_diagram.proofs.laws.story_step.Goals as goal

pub returns-clause-story : goal.returns-clause-story
returns-clause-story c = story-step

pub returns-clause-events : goal.returns-clause-events
returns-clause-events c = events-step

pub returns-clause-last : goal.returns-clause-last
returns-clause-last c = last_story-told

pub returns-clause-untold : goal.returns-clause-untold
returns-clause-untold c = story-untold
