-- What contracts see of what was read: its texts, and not where they lie.
use Rattle.std.specs.Prelude.{Option, Some, None, Result, Ok, Err}
use Rattle.command_words.specs.Commands as asked
use Rattle.command_words.specs.Few as texts
use Rattle.command_words.specs.Parts as part
use Rattle.command_words.specs.declared.command.Command.{Command}
use Rattle.command_words.specs.declared.command.Command.TheVariants.{Help, Panes, Run, Replay, Make, Drill, Combine}
use Rattle.command_words.specs.declared.few.Few.{Few}
use Rattle.command_words.specs.declared.few.Few.TheVariants.{Nothing, One, Two, More}
use Rattle.command_words.specs.declared.parts.Part.{Part}
use Rattle.command_words.specs.declared.parts.Part.TheVariants.{Chosen, Positional}
use Rattle.command_words.specs.declared.usage.Usage.{Usage}

abbrev pub shown_command : Command → asked.Asked
shown_command Help = asked.Help
shown_command (Panes file size options) = asked.Panes file.now size options
shown_command (Run plan options) = asked.Run plan.now options
shown_command (Replay plan schedule options) = asked.Replay plan.now schedule.now options
shown_command (Make count number) = asked.Make count number
shown_command (Drill count number options) = asked.Drill count number options
shown_command (Combine plan options) = asked.Combine plan.now options

-- what was read, or none where the words were refused
abbrev pub shown_answer : Result Command Usage → Option asked.Asked
shown_answer (Ok command) = Some (shown_command command)
shown_answer (Err usage) = None

abbrev pub shown_few : Few → texts.Few
shown_few Nothing = texts.Nothing
shown_few (One a) = texts.One a.now
shown_few (Two a b) = texts.Two a.now b.now
shown_few More = texts.More

abbrev pub shown_part : Part → part.Part
shown_part (Chosen setting text) = part.Chosen setting text.now
shown_part (Positional word) = part.Positional word.now
