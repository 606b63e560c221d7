-- What views tell of an element.
use Rattle.std.specs.Prelude.{List, [], ◌∷◌, map}
use Rattle.beam_values.specs.declared.element.Element.{Element}
use Rattle.beam_model.specs.Texts.{words}
use Rattle.combine_views.specs.Seen.{element_seen}
use Rattle.combine_views.specs.Words.{element_of_word}
use Rattle.combine_views.specs.declared.told.Told.{Told}
use Rattle.combine_views.specs.declared.told.Told.TheVariants.{Nothing, One, Words}

-- the elements that it gives or brings
abbrev pub elements_told : Told → List Element
elements_told Nothing = []
elements_told (One seen) = element_seen seen ∷ []
elements_told (Words text each) = map (element_of_word each) (words text.now)
