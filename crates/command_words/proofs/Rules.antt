-- The rules and the definition read the same command in the same words.
use Rattle.std.proofs.Common.{◌≡◌, ℕ, pos, ◌≤◌, Bool, true, false, if◌then◌else◌, ◌&&◌, ◌||◌, List, [], ◌∷◌, length, codes, Option, Some, None, Result, Ok, Err, IfOk, IsErr, ◌↔◌, inl, inr, refl, sym, ap, ◌∙◌, subst, arith}
use Rattle.std.specs.Option.{option_map, option_and_then}
use Rattle.std.specs.Str.{bytes_eq}
use Rattle.std.proofs.lemmas.Bool.Decides.{nat_tests}
use Rattle.std.proofs.lemmas.Slice.Eq.{bytes_eq-Decides}
use Rattle.beam_values.specs.Strategies.{greatest_length}
use Rattle.beam_values.specs.Windows.{or_zero}
use Rattle.beam_values.specs.declared.options.Options.{Options}
use Rattle.command_words.specs.Commands.{Asked, Help, Panes, Run, Replay, Make, Drill, Combine, AsksHelp, asked_by, asks_help, command_name, combine_of, command_of, drill_of, greatest_of, has_no_option, is_file_name, is_none_of, make_of, options_of, panes_of, replay_of, run_of, value_of, value_of_texts}
use Rattle.command_words.specs.Grammar.{AreParts}
use Rattle.command_words.specs.Numbers.{IsNumberWithin, is_number_within, number_of_text, number_within}
use Rattle.command_words.specs.Parts.{Part, parts_of, positional_words, texts_of}
use Rattle.command_words.specs.Rules.{AreGiven, Asks, ByDefault, ForCombine, ForDrill, ForHelp, ForMake, ForPanes, ForReplay, ForRun, Given, HasNoOption, IsRefused, IsValue}
use Rattle.command_words.specs.Shown.{shown_answer, shown_command}
use Rattle.command_words.specs.declared.command.Command.{Command}
use Rattle.command_words.specs.declared.command.Command.TheVariants as own
use Rattle.command_words.specs.declared.name.CommandName.{CommandName}
use Rattle.command_words.specs.declared.name.CommandName.TheVariants as commands
use Rattle.command_words.specs.declared.setting.Setting.{Setting}
use Rattle.command_words.specs.declared.setting.Setting.TheVariants.{Workers, Bundle, Chunk, Attempts}
use Rattle.command_words.specs.declared.usage.Usage.{Usage}
use Rattle.command_words.proofs.Grammar.{grammar_is_read, read_is_grammar}
use Rattle.command_words.proofs.Numerals.{is_number_within-Decides, number_within-some}

-- Numbers and options.

numbered : (low high : ℕ) (text : List ℕ) → IsNumberWithin low high text → number_within low high text ≡ Some (number_of_text text)
numbered low high text h = number_within-some low high text (h.numeral, (h.least, h.greatest))

number_by : (low high : ℕ) (text : List ℕ) (n : ℕ) (b : Bool) → is_number_within low high text ≡ b → (if b then Some (number_of_text text) else None) ≡ Some n
    → IsNumberWithin low high text × (n ≡ number_of_text text)
number_by low high text n true test h =
    let within = (is_number_within-Decides low high text).0 test in
    (record { numeral = within.0; least = within.1.0; greatest = within.1.1 }, cc)
number_by low high text n false test h = cc

number_is : (low high : ℕ) (text : List ℕ) (n : ℕ) → number_within low high text ≡ Some n → IsNumberWithin low high text × (n ≡ number_of_text text)
number_is low high text n h = number_by low high text n _ refl h

value_by : (setting : Setting) (parts : List Part) (value : ℕ) (texts : List (List ℕ)) → texts_of setting parts ≡ texts
    → value_of_texts setting texts ≡ Some value → IsValue setting parts value
value_by setting parts value [] are h = ByDefault are cc
value_by setting parts value (text ∷ []) are h =
    let number = number_is 1 (greatest_of setting) text value h in
    Given text are number.0 number.1
value_by setting parts value (a ∷ (b ∷ texts)) are h = cc

value_is : (setting : Setting) (parts : List Part) (value : ℕ) → value_of setting parts ≡ Some value → IsValue setting parts value
value_is setting parts value h = value_by setting parts value (texts_of setting parts) refl h

is_value : (setting : Setting) (parts : List Part) (value : ℕ) → IsValue setting parts value → value_of setting parts ≡ Some value
is_value setting parts value (ByDefault are is) = rw are (ap (λ n. Some n) (sym is))
is_value setting parts value (Given text are number is) = rw are (numbered 1 (greatest_of setting) text number ∙ ap (λ n. Some n) (sym is))

options_by : (parts : List Part) (options : Options) (w b c a : Option ℕ)
    → value_of Workers parts ≡ w → value_of Bundle parts ≡ b → value_of Chunk parts ≡ c → value_of Attempts parts ≡ a
    → option_and_then (λ workers. option_and_then (λ bundle. option_and_then (λ chunk.
    option_map (λ attempts. record { workers = workers; bundle = bundle; chunk = chunk; attempts = attempts }) a) c) b) w ≡ Some options
    → AreGiven parts options
options_by parts options None b c a we be ce ae h = cc
options_by parts options (Some w) None c a we be ce ae h = cc
options_by parts options (Some w) (Some b) None a we be ce ae h = cc
options_by parts options (Some w) (Some b) (Some c) None we be ce ae h = cc
options_by parts options (Some w) (Some b) (Some c) (Some a) we be ce ae h =
    let made : Options = record { workers = w; bundle = b; chunk = c; attempts = a } in
    let is : made ≡ options = cc in
    let given : AreGiven parts made = record {
      workers = value_is Workers parts w we;
      bundle = value_is Bundle parts b be;
      chunk = value_is Chunk parts c ce;
      attempts = value_is Attempts parts a ae;
    } in
    subst (AreGiven parts) is given

options_are : (parts : List Part) (options : Options) → options_of parts ≡ Some options → AreGiven parts options
options_are parts options h = options_by parts options _ _ _ _ refl refl refl refl h

are_options : (parts : List Part) (options : Options) → AreGiven parts options → options_of parts ≡ Some options
are_options parts options given =
    let w = is_value Workers parts options.workers given.workers in
    let b = is_value Bundle parts options.bundle given.bundle in
    let c = is_value Chunk parts options.chunk given.chunk in
    let a = is_value Attempts parts options.attempts given.attempts in
    rw (w, b, c, a) refl

-- By the rules, and so by the definition.

-- a number of made lines
within : (low high : ℕ) (text : List ℕ) → is_number_within low high text ≡ true → IsNumberWithin low high text
within low high text test =
    let fits = (is_number_within-Decides low high text).0 test in
    record { numeral = fits.0; least = fits.1.0; greatest = fits.1.1 }

-- no option is given
is_no_option : (parts : List Part) → HasNoOption parts → has_no_option parts ≡ true
is_no_option parts none =
    let w = none.workers in
    let b = none.bundle in
    let c = none.chunk in
    let a = none.attempts in
    rw (w, b, c, a) refl

no_option_by : (parts : List Part) (w b c a : List (List ℕ)) → texts_of Workers parts ≡ w → texts_of Bundle parts ≡ b → texts_of Chunk parts ≡ c → texts_of Attempts parts ≡ a
    → (is_none_of w && is_none_of b && is_none_of c && is_none_of a) ≡ true → HasNoOption parts
no_option_by parts [] [] [] [] we be ce ae h = record { workers = we; bundle = be; chunk = ce; attempts = ae }
no_option_by parts [] [] [] (text ∷ a) we be ce ae h = cc
no_option_by parts [] [] (text ∷ c) a we be ce ae h = cc
no_option_by parts [] (text ∷ b) c a we be ce ae h = cc
no_option_by parts (text ∷ w) b c a we be ce ae h = cc

no_option_is : (parts : List Part) → has_no_option parts ≡ true → HasNoOption parts
no_option_is parts h = no_option_by parts _ _ _ _ refl refl refl refl h

names_file : (file : List ℕ) → 1 ≤ length file → length file ≤ 4096 → is_file_name file ≡ true
names_file file some short = grind (arith, nat_tests)

help_named : (program : List ℕ) (words : List (List ℕ)) (name spelled : List ℕ) → name ≡ spelled → asks_help spelled ≡ true
    → command_of (program ∷ (name ∷ words)) ≡ Some Help
help_named program words name spelled is asks = ap (λ name. command_of (program ∷ (name ∷ words))) is ∙ rw asks refl

asks_for_help : (words : List (List ℕ)) → AsksHelp words → command_of words ≡ Some Help
asks_for_help [] asks = elim asks [ inl a ↦ cc | inr b ↦ elim b [ inl c ↦ cc | inr d ↦ cc ] ]
asks_for_help (program ∷ []) asks = elim asks [ inl a ↦ cc | inr b ↦ elim b [ inl c ↦ cc | inr d ↦ cc ] ]
asks_for_help (program ∷ (name ∷ words)) asks = elim asks [
  | inl a ↦ help_named program words name (codes "help") a refl
  | inr b ↦ elim b [
    | inl c ↦ help_named program words name (codes "--help") c refl
    | inr d ↦ help_named program words name (codes "-h") d refl
  ]
]

pub rules_are_followed : (words : List (List ℕ)) (asked : Asked) → Asks words asked → command_of words ≡ Some asked
rules_are_followed _ _ (ForHelp words asks) = asks_for_help words asks
rules_are_followed _ _ (ForPanes program words parts file size options are two given some short number) =
    let read = grammar_is_read words parts are in
    let by = are_options parts options given in
    let name = names_file file some short in
    let ms = numbered 1 (or_zero greatest_length) size number in
    rw (read, two, by, name, ms) refl
rules_are_followed _ _ (ForRun program words parts plan options are one given) =
    let read = grammar_is_read words parts are in
    let by = are_options parts options given in
    rw (read, one, by) refl
rules_are_followed _ _ (ForReplay program words parts plan schedule options are two given) =
    let read = grammar_is_read words parts are in
    let by = are_options parts options given in
    rw (read, two, by) refl
rules_are_followed _ _ (ForMake program words parts count number are two none few small) =
    let read = grammar_is_read words parts are in
    let by = is_no_option parts none in
    let cs = numbered 0 1000000 count few in
    let ns = numbered 0 1000000 number small in
    rw (read, by, two, cs, ns) refl
rules_are_followed _ _ (ForDrill program words parts count number options are two given few small) =
    let read = grammar_is_read words parts are in
    let by = are_options parts options given in
    let cs = numbered 0 1000000 count few in
    let ns = numbered 0 1000000 number small in
    rw (read, two, by, cs, ns) refl
rules_are_followed _ _ (ForCombine program words parts plan options are one given) =
    let read = grammar_is_read words parts are in
    let by = are_options parts options given in
    rw (read, one, by) refl

-- By the definition, and so by the rules.

help_asked : (program name : List ℕ) (words : List (List ℕ)) (a b c : Bool)
    → bytes_eq name (codes "help") ≡ a → bytes_eq name (codes "--help") ≡ b → bytes_eq name (codes "-h") ≡ c → (a || (b || c)) ≡ true
    → AsksHelp (program ∷ (name ∷ words))
help_asked program name words true b c ae be ce h = inl ((bytes_eq-Decides name (codes "help")).0 ae)
help_asked program name words false true c ae be ce h = inr (inl ((bytes_eq-Decides name (codes "--help")).0 be))
help_asked program name words false false true ae be ce h = inr (inr ((bytes_eq-Decides name (codes "-h")).0 ce))
help_asked program name words false false false ae be ce h = cc

file_named : (file : List ℕ) → is_file_name file ≡ true → (1 ≤ length file) × (length file ≤ 4096)
file_named file h = (grind (arith, nat_tests), grind (arith, nat_tests))

panes_by : (program : List ℕ) (words : List (List ℕ)) (parts : List Part) (asked : Asked) (file size : List ℕ) (name number : Bool) (options : Option Options)
    → AreParts words parts → positional_words parts ≡ file ∷ (size ∷ []) → is_file_name file ≡ name → is_number_within 1 (or_zero greatest_length) size ≡ number → options_of parts ≡ options
    → (if name then option_and_then (λ size. option_map (λ options. Panes file size options) options)
    (option_map pos (if number then Some (number_of_text size) else None)) else None) ≡ Some asked
    → Asks (program ∷ (codes "panes" ∷ words)) asked
panes_by program words parts asked file size false number options are two named within by h = cc
panes_by program words parts asked file size true false options are two named within by h = cc
panes_by program words parts asked file size true true None are two named within by h = cc
panes_by program words parts asked file size true true (Some options) are two named within by h =
    let is : Panes file (pos (number_of_text size)) options ≡ asked = cc in
    let bounds = file_named file named in
    let fits = (is_number_within-Decides 1 (or_zero greatest_length) size).0 within in
    subst (Asks (program ∷ (codes "panes" ∷ words))) is
    (ForPanes program words parts file size options are two (options_are parts options by) bounds.0 bounds.1
    (record { numeral = fits.0; least = fits.1.0; greatest = fits.1.1 }))

panes_are : (program : List ℕ) (words : List (List ℕ)) (parts : List Part) (asked : Asked) (positional : List (List ℕ))
    → AreParts words parts → positional_words parts ≡ positional → panes_of positional (options_of parts) ≡ Some asked
    → Asks (program ∷ (codes "panes" ∷ words)) asked
panes_are program words parts asked [] are positional h = cc
panes_are program words parts asked (file ∷ []) are positional h = cc
panes_are program words parts asked (file ∷ (size ∷ [])) are positional h = panes_by program words parts asked file size _ _ _ are positional refl refl refl h
panes_are program words parts asked (a ∷ (b ∷ (c ∷ more))) are positional h = cc

run_by : (program : List ℕ) (words : List (List ℕ)) (parts : List Part) (asked : Asked) (plan : List ℕ) (options : Option Options)
    → AreParts words parts → positional_words parts ≡ plan ∷ [] → options_of parts ≡ options → option_map (λ options. Run plan options) options ≡ Some asked
    → Asks (program ∷ (codes "run" ∷ words)) asked
run_by program words parts asked plan None are one by h = cc
run_by program words parts asked plan (Some options) are one by h =
    let is : Run plan options ≡ asked = cc in
    subst (Asks (program ∷ (codes "run" ∷ words))) is (ForRun program words parts plan options are one (options_are parts options by))

run_is : (program : List ℕ) (words : List (List ℕ)) (parts : List Part) (asked : Asked) (positional : List (List ℕ))
    → AreParts words parts → positional_words parts ≡ positional → run_of positional (options_of parts) ≡ Some asked
    → Asks (program ∷ (codes "run" ∷ words)) asked
run_is program words parts asked [] are positional h = cc
run_is program words parts asked (plan ∷ []) are positional h = run_by program words parts asked plan _ are positional refl h
run_is program words parts asked (a ∷ (b ∷ more)) are positional h = cc

replay_by : (program : List ℕ) (words : List (List ℕ)) (parts : List Part) (asked : Asked) (plan schedule : List ℕ) (options : Option Options)
    → AreParts words parts → positional_words parts ≡ plan ∷ (schedule ∷ []) → options_of parts ≡ options → option_map (λ options. Replay plan schedule options) options ≡ Some asked
    → Asks (program ∷ (codes "replay" ∷ words)) asked
replay_by program words parts asked plan schedule None are two by h = cc
replay_by program words parts asked plan schedule (Some options) are two by h =
    let is : Replay plan schedule options ≡ asked = cc in
    subst (Asks (program ∷ (codes "replay" ∷ words))) is (ForReplay program words parts plan schedule options are two (options_are parts options by))

replay_is : (program : List ℕ) (words : List (List ℕ)) (parts : List Part) (asked : Asked) (positional : List (List ℕ))
    → AreParts words parts → positional_words parts ≡ positional → replay_of positional (options_of parts) ≡ Some asked
    → Asks (program ∷ (codes "replay" ∷ words)) asked
replay_is program words parts asked [] are positional h = cc
replay_is program words parts asked (plan ∷ []) are positional h = cc
replay_is program words parts asked (plan ∷ (schedule ∷ [])) are positional h = replay_by program words parts asked plan schedule _ are positional refl h
replay_is program words parts asked (a ∷ (b ∷ (c ∷ more))) are positional h = cc

make_by : (program : List ℕ) (words : List (List ℕ)) (parts : List Part) (asked : Asked) (count number : List ℕ) (none few small : Bool)
    → AreParts words parts → positional_words parts ≡ count ∷ (number ∷ []) → has_no_option parts ≡ none → is_number_within 0 1000000 count ≡ few → is_number_within 0 1000000 number ≡ small
    → (if none then option_and_then (λ count. option_map (λ number. Make count number) (if small then Some (number_of_text number) else None))
    (if few then Some (number_of_text count) else None) else None) ≡ Some asked
    → Asks (program ∷ (codes "make" ∷ words)) asked
make_by program words parts asked count number false few small are two ne fe se h = cc
make_by program words parts asked count number true false small are two ne fe se h = cc
make_by program words parts asked count number true true false are two ne fe se h = cc
make_by program words parts asked count number true true true are two ne fe se h =
    let is : Make (number_of_text count) (number_of_text number) ≡ asked = cc in
    subst (Asks (program ∷ (codes "make" ∷ words))) is
    (ForMake program words parts count number are two (no_option_is parts ne) (within 0 1000000 count fe) (within 0 1000000 number se))

make_is : (program : List ℕ) (words : List (List ℕ)) (parts : List Part) (asked : Asked) (positional : List (List ℕ)) (none : Bool)
    → AreParts words parts → positional_words parts ≡ positional → has_no_option parts ≡ none → (if none then make_of positional else None) ≡ Some asked
    → Asks (program ∷ (codes "make" ∷ words)) asked
make_is program words parts asked positional false are positions ne h = cc
make_is program words parts asked [] true are positional ne h = cc
make_is program words parts asked (count ∷ []) true are positional ne h = cc
make_is program words parts asked (count ∷ (number ∷ [])) true are positional ne h = make_by program words parts asked count number true _ _ are positional ne refl refl h
make_is program words parts asked (a ∷ (b ∷ (c ∷ more))) true are positional ne h = cc

drill_by : (program : List ℕ) (words : List (List ℕ)) (parts : List Part) (asked : Asked) (count number : List ℕ) (few small : Bool) (options : Option Options)
    → AreParts words parts → positional_words parts ≡ count ∷ (number ∷ []) → is_number_within 0 1000000 count ≡ few → is_number_within 0 1000000 number ≡ small → options_of parts ≡ options
    → option_and_then (λ count. option_and_then (λ number. option_map (λ options. Drill count number options) options) (if small then Some (number_of_text number) else None))
    (if few then Some (number_of_text count) else None) ≡ Some asked
    → Asks (program ∷ (codes "drill" ∷ words)) asked
drill_by program words parts asked count number false small options are two fe se by h = cc
drill_by program words parts asked count number true false options are two fe se by h = cc
drill_by program words parts asked count number true true None are two fe se by h = cc
drill_by program words parts asked count number true true (Some options) are two fe se by h =
    let is : Drill (number_of_text count) (number_of_text number) options ≡ asked = cc in
    subst (Asks (program ∷ (codes "drill" ∷ words))) is
    (ForDrill program words parts count number options are two (options_are parts options by) (within 0 1000000 count fe) (within 0 1000000 number se))

drill_is : (program : List ℕ) (words : List (List ℕ)) (parts : List Part) (asked : Asked) (positional : List (List ℕ))
    → AreParts words parts → positional_words parts ≡ positional → drill_of positional (options_of parts) ≡ Some asked
    → Asks (program ∷ (codes "drill" ∷ words)) asked
drill_is program words parts asked [] are positional h = cc
drill_is program words parts asked (count ∷ []) are positional h = cc
drill_is program words parts asked (count ∷ (number ∷ [])) are positional h = drill_by program words parts asked count number _ _ _ are positional refl refl refl h
drill_is program words parts asked (a ∷ (b ∷ (c ∷ more))) are positional h = cc

combine_by : (program : List ℕ) (words : List (List ℕ)) (parts : List Part) (asked : Asked) (plan : List ℕ) (options : Option Options)
    → AreParts words parts → positional_words parts ≡ plan ∷ [] → options_of parts ≡ options → option_map (λ options. Combine plan options) options ≡ Some asked
    → Asks (program ∷ (codes "combine" ∷ words)) asked
combine_by program words parts asked plan None are one by h = cc
combine_by program words parts asked plan (Some options) are one by h =
    let is : Combine plan options ≡ asked = cc in
    subst (Asks (program ∷ (codes "combine" ∷ words))) is (ForCombine program words parts plan options are one (options_are parts options by))

combine_is : (program : List ℕ) (words : List (List ℕ)) (parts : List Part) (asked : Asked) (positional : List (List ℕ))
    → AreParts words parts → positional_words parts ≡ positional → combine_of positional (options_of parts) ≡ Some asked
    → Asks (program ∷ (codes "combine" ∷ words)) asked
combine_is program words parts asked [] are positional h = cc
combine_is program words parts asked (plan ∷ []) are positional h = combine_by program words parts asked plan _ are positional refl h
combine_is program words parts asked (a ∷ (b ∷ more)) are positional h = cc

-- commands by their names

abbrev spelled : CommandName → List ℕ
spelled commands.Panes = codes "panes"
spelled commands.Run = codes "run"
spelled commands.Replay = codes "replay"
spelled commands.Make = codes "make"
spelled commands.Drill = codes "drill"
spelled commands.Combine = codes "combine"

asked_is : (program : List ℕ) (words : List (List ℕ)) (parts : List Part) (asked : Asked) (command : CommandName)
    → AreParts words parts → asked_by command parts ≡ Some asked → Asks (program ∷ (spelled command ∷ words)) asked
asked_is program words parts asked commands.Panes are h = panes_are program words parts asked _ are refl h
asked_is program words parts asked commands.Run are h = run_is program words parts asked _ are refl h
asked_is program words parts asked commands.Replay are h = replay_is program words parts asked _ are refl h
asked_is program words parts asked commands.Make are h = make_is program words parts asked _ _ are refl refl h
asked_is program words parts asked commands.Drill are h = drill_is program words parts asked _ are refl h
asked_is program words parts asked commands.Combine are h = combine_is program words parts asked _ are refl h

named : (name : List ℕ) (command one : CommandName) → bytes_eq name (spelled one) ≡ true → one ≡ command → spelled command ≡ name
named name command one same is = subst (λ (c : CommandName). spelled c ≡ name) is (sym ((bytes_eq-Decides name (spelled one)).0 same))

name_by : (name : List ℕ) (command : CommandName) (p r y m d o : Bool)
    → bytes_eq name (codes "panes") ≡ p → bytes_eq name (codes "run") ≡ r → bytes_eq name (codes "replay") ≡ y → bytes_eq name (codes "make") ≡ m → bytes_eq name (codes "drill") ≡ d → bytes_eq name (codes "combine") ≡ o
    → (if p then Some commands.Panes else (if r then Some commands.Run else (if y then Some commands.Replay
    else (if m then Some commands.Make else (if d then Some commands.Drill else (if o then Some commands.Combine else None)))))) ≡ Some command
    → spelled command ≡ name
name_by name command true r y m d o pe re ye me de oe h = named name command commands.Panes pe cc
name_by name command false true y m d o pe re ye me de oe h = named name command commands.Run re cc
name_by name command false false true m d o pe re ye me de oe h = named name command commands.Replay ye cc
name_by name command false false false true d o pe re ye me de oe h = named name command commands.Make me cc
name_by name command false false false false true o pe re ye me de oe h = named name command commands.Drill de cc
name_by name command false false false false false true pe re ye me de oe h = named name command commands.Combine oe cc
name_by name command false false false false false false pe re ye me de oe h = cc

name_is : (name : List ℕ) (command : CommandName) → command_name name ≡ Some command → spelled command ≡ name
name_is name command h = name_by name command _ _ _ _ _ _ refl refl refl refl refl refl h

named_by : (program name : List ℕ) (words : List (List ℕ)) (asked : Asked) (help : Bool) (command : Option CommandName) (read : Option (List Part))
    → asks_help name ≡ help → command_name name ≡ command → parts_of words ≡ read
    → (if help then Some Help else option_and_then (λ command. option_and_then (asked_by command) read) command) ≡ Some asked
    → Asks (program ∷ (name ∷ words)) asked
named_by program name words asked true command read he ce is h =
    let help : Help ≡ asked = cc in
    subst (Asks (program ∷ (name ∷ words))) help (ForHelp (program ∷ (name ∷ words)) (help_asked program name words _ _ _ refl refl refl he))
named_by program name words asked false None read he ce is h = cc
named_by program name words asked false (Some command) None he ce is h = cc
named_by program name words asked false (Some command) (Some parts) he ce is h =
    subst (λ (n : List ℕ). Asks (program ∷ (n ∷ words)) asked) (name_is name command ce) (asked_is program words parts asked command (read_is_grammar words parts is) h)

pub rules_are_met : (words : List (List ℕ)) (asked : Asked) → command_of words ≡ Some asked → Asks words asked
rules_are_met [] asked h = cc
rules_are_met (program ∷ []) asked h = cc
rules_are_met (program ∷ (name ∷ words)) asked h = named_by program name words asked _ _ _ refl refl refl h

-- What follows where an answer is the one that the definition gives.

pub refused_by_the_rules : (words : List (List ℕ)) (answer : Result Command Usage) → shown_answer answer ≡ command_of words → IsErr answer ↔ IsRefused words
refused_by_the_rules words (Ok command) h = (λ refused. cc, λ nothing. absurd (nothing (shown_command command) (rules_are_met words (shown_command command) (sym h))))
refused_by_the_rules words (Err usage) h = (λ refused asked asks. let is : command_of words ≡ Some asked = rules_are_followed words asked asks in cc, λ nothing. refl)

pub asked_by_the_rules : (words : List (List ℕ)) (answer : Result Command Usage) → shown_answer answer ≡ command_of words → IfOk answer (λ command. Asks words (shown_command command))
asked_by_the_rules words (Ok command) h = rules_are_met words (shown_command command) (sym h)
asked_by_the_rules words (Err usage) h = tt

help_is_asked : (words : List (List ℕ)) (asked : Asked) → Asks words asked → asked ≡ Help → AsksHelp words
help_is_asked _ _ (ForHelp words help) is = help
help_is_asked _ _ (ForPanes program words parts file size options are two given some short within) is = cc
help_is_asked _ _ (ForRun program words parts plan options are one given) is = cc
help_is_asked _ _ (ForReplay program words parts plan schedule options are two given) is = cc
help_is_asked _ _ (ForMake program words parts count number are two none few small) is = cc
help_is_asked _ _ (ForDrill program words parts count number options are two given few small) is = cc
help_is_asked _ _ (ForCombine program words parts plan options are one given) is = cc

shows_help : (answer : Result Command Usage) → shown_answer answer ≡ Some Help → answer ≡ Ok own.Help
shows_help (Ok own.Help) h = refl
shows_help (Ok (own.Panes file size options)) h = cc
shows_help (Ok (own.Run plan options)) h = cc
shows_help (Ok (own.Replay plan schedule options)) h = cc
shows_help (Ok (own.Make count number)) h = cc
shows_help (Ok (own.Drill count number options)) h = cc
shows_help (Ok (own.Combine plan options)) h = cc
shows_help (Err usage) h = cc

pub help_by_the_rules : (words : List (List ℕ)) (answer : Result Command Usage) → shown_answer answer ≡ command_of words → (answer ≡ Ok own.Help) ↔ AsksHelp words
help_by_the_rules words answer h = (
  λ helps. help_is_asked words Help (rules_are_met words Help (sym h ∙ ap shown_answer helps)) refl,
  λ asks. shows_help answer (h ∙ rules_are_followed words Help (ForHelp words asks)),
)
