-- Command lines computed, each without the program's name.
use Rattle.std.specs.Prelude.{◌≡◌, ℕ, pos, List, [], ◌∷◌, Option, Some, None, codes, refl}
use Rattle.beam_values.specs.declared.options.Options.{Options}
use Rattle.command_words.specs.Commands.{Asked, Help, Panes, Run, Replay, Make, Drill, command_of}

abbrev asked : List (List ℕ) → Option Asked
asked words = command_of (codes "beam_run" ∷ words)

-- four workers, bundles of 64, pieces of 65536 offsets, three attempts
abbrev defaults : Options
defaults = record { workers = 4; bundle = 64; chunk = 65536; attempts = 3 }

abbrev two_workers : Options
two_workers = record { workers = 2; bundle = 64; chunk = 65536; attempts = 3 }

-- panes

panes_without_options : asked (codes "panes" ∷ codes "f" ∷ codes "60000" ∷ []) ≡ Some (Panes (codes "f") (pos 60000) defaults)
panes_without_options = refl

option_in_one_word :
    asked (codes "panes" ∷ codes "--workers=2" ∷ codes "f" ∷ codes "60000" ∷ []) ≡ Some (Panes (codes "f") (pos 60000) two_workers)
option_in_one_word = refl

option_in_two_words_before_the_end :
    asked (codes "panes" ∷ codes "f" ∷ codes "60000" ∷ codes "--workers" ∷ codes "2" ∷ codes "--" ∷ []) ≡ Some (Panes (codes "f") (pos 60000) two_workers)
option_in_two_words_before_the_end = refl

dashed_file_after_the_end :
    asked (codes "panes" ∷ codes "--" ∷ codes "-f" ∷ codes "60000" ∷ []) ≡ Some (Panes (codes "-f") (pos 60000) defaults)
dashed_file_after_the_end = refl

third_positional_word : asked (codes "panes" ∷ codes "f" ∷ codes "60000" ∷ codes "--" ∷ codes "x" ∷ []) ≡ None
third_positional_word = refl

option_after_the_end : asked (codes "panes" ∷ codes "f" ∷ codes "60000" ∷ codes "--" ∷ codes "--workers=2" ∷ []) ≡ None
option_after_the_end = refl

size_of_zero : asked (codes "panes" ∷ codes "f" ∷ codes "0" ∷ []) ≡ None
size_of_zero = refl

size_with_a_plus : asked (codes "panes" ∷ codes "f" ∷ codes "+5" ∷ []) ≡ Some (Panes (codes "f") (pos 5) defaults)
size_with_a_plus = refl

greatest_size : asked (codes "panes" ∷ codes "f" ∷ codes "31536000000000" ∷ []) ≡ Some (Panes (codes "f") (pos 31536000000000) defaults)
greatest_size = refl

size_above_the_greatest : asked (codes "panes" ∷ codes "f" ∷ codes "31536000000001" ∷ []) ≡ None
size_above_the_greatest = refl

file_of_one_dash : asked (codes "panes" ∷ codes "-" ∷ codes "5" ∷ []) ≡ Some (Panes (codes "-") (pos 5) defaults)
file_of_one_dash = refl

empty_file_name : asked (codes "panes" ∷ [] ∷ codes "5" ∷ []) ≡ None
empty_file_name = refl

-- run

plan_without_options : asked (codes "run" ∷ codes "p" ∷ []) ≡ Some (Run (codes "p") defaults)
plan_without_options = refl

seventeen_workers : asked (codes "run" ∷ codes "p" ∷ codes "--workers" ∷ codes "17" ∷ []) ≡ None
seventeen_workers = refl

option_given_twice : asked (codes "run" ∷ codes "p" ∷ codes "--bundle=1" ∷ codes "--bundle" ∷ codes "2" ∷ []) ≡ None
option_given_twice = refl

dashed_plan : asked (codes "run" ∷ codes "-p" ∷ []) ≡ None
dashed_plan = refl

dashed_value : asked (codes "run" ∷ codes "p" ∷ codes "--chunk" ∷ codes "-1" ∷ []) ≡ None
dashed_value = refl

value_with_a_plus :
    asked (codes "run" ∷ codes "p" ∷ codes "--attempts=+5" ∷ []) ≡ Some (Run (codes "p") (record { workers = 4; bundle = 64; chunk = 65536; attempts = 5 }))
value_with_a_plus = refl

option_without_its_value : asked (codes "run" ∷ codes "--workers" ∷ []) ≡ None
option_without_its_value = refl

end_as_a_value : asked (codes "run" ∷ codes "p" ∷ codes "--workers" ∷ codes "--" ∷ codes "3" ∷ []) ≡ None
end_as_a_value = refl

empty_value : asked (codes "run" ∷ codes "p" ∷ codes "--workers=" ∷ []) ≡ None
empty_value = refl

-- the word of an option of no command
unknown_option : asked (codes "run" ∷ codes "p" ∷ codes "--seed=1" ∷ []) ≡ None
unknown_option = refl

-- it is taken, and there is no such file
empty_plan_name : asked (codes "run" ∷ [] ∷ []) ≡ Some (Run [] defaults)
empty_plan_name = refl

-- replay, make and drill

replay_with_options : asked (codes "replay" ∷ codes "--workers=2" ∷ codes "p" ∷ codes "s" ∷ []) ≡ Some (Replay (codes "p") (codes "s") two_workers)
replay_with_options = refl

replay_without_a_schedule : asked (codes "replay" ∷ codes "p" ∷ []) ≡ None
replay_without_a_schedule = refl

make_of_nothing : asked (codes "make" ∷ codes "0" ∷ codes "5" ∷ []) ≡ Some (Make 0 5)
make_of_nothing = refl

make_after_the_end : asked (codes "make" ∷ codes "--" ∷ codes "+2" ∷ codes "999" ∷ []) ≡ Some (Make 2 999)
make_after_the_end = refl

make_with_an_option : asked (codes "make" ∷ codes "2" ∷ codes "7" ∷ codes "--bundle" ∷ codes "1" ∷ []) ≡ None
make_with_an_option = refl

make_of_too_many : asked (codes "make" ∷ codes "1000001" ∷ codes "7" ∷ []) ≡ None
make_of_too_many = refl

drill_without_options : asked (codes "drill" ∷ codes "1000000" ∷ codes "0" ∷ []) ≡ Some (Drill 1000000 0 defaults)
drill_without_options = refl

drill_after_too_much : asked (codes "drill" ∷ codes "0" ∷ codes "1000001" ∷ []) ≡ None
drill_after_too_much = refl

drill_of_one_number : asked (codes "drill" ∷ codes "17" ∷ []) ≡ None
drill_of_one_number = refl

-- help, and no command

help_with_a_word : asked (codes "help" ∷ codes "x" ∷ []) ≡ Some Help
help_with_a_word = refl

short_help : asked (codes "-h" ∷ []) ≡ Some Help
short_help = refl

help_after_a_command : asked (codes "panes" ∷ codes "--help" ∷ []) ≡ None
help_after_a_command = refl

no_words : command_of [] ≡ None
no_words = refl

only_the_program : asked [] ≡ None
only_the_program = refl

unknown_command : asked (codes "resume" ∷ codes "1" ∷ codes "2" ∷ []) ≡ None
unknown_command = refl
