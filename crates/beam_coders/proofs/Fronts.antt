-- From what a reader answers to what stands at the front of the bytes.
use Rattle.std.proofs.Common.{◌≡◌, ℕ, ◌+◌, ◌-◌, ◌^◌, ◌<◌, ◌≤◌, List, ◌++◌, length, take, drop, Result, Ok, Err, sym, ap, ◌∙◌, arith}
use Rattle.std.proofs.lemmas.List.{take_at, drop_at, length-append}
use Rattle.beam_values.specs.declared.value.Value.{Value}
use Rattle.beam_values.specs.Spelling.{spelling}
use Rattle.beam_coders.specs.declared.refusal.ReadRefusal.{ReadRefusal}
use Rattle.beam_coders.specs.declared.refusal.ReadRefusal.TheVariants as refusals
use Rattle.beam_coders.specs.Answers.{Gives, IsBad}
use Rattle.beam_coders.specs.Readable.{IsReadable, depth_limit}
use Rattle.beam_coders.specs.Reading.{value_at}
use Rattle.beam_coders.proofs.Parts.{IsBytes, Takes}
use Rattle.beam_coders.proofs.ValueLaws.{value_takes, value_again}

pub record Front (bytes text rest : List ℕ) : Type 0 where
  pub room : length rest ≤ length bytes
  pub front : text ≡ take (length bytes - length rest) bytes
  pub back : rest ≡ drop (length bytes - length rest) bytes

pub front_of : (bytes text rest : List ℕ) → Takes bytes text rest → Front bytes text rest
front_of bytes text rest t =
    let size : length bytes ≡ length text + length rest = ap length t.parts ∙ length-append text rest in
    let cut : length text ≡ length bytes - length rest = omega arith in
    record {
      room = omega arith;
      front = sym (take_at text rest (length bytes - length rest) cut) ∙ ap (take (length bytes - length rest)) (sym t.parts);
      back = sym (drop_at text rest (length bytes - length rest) cut) ∙ ap (drop (length bytes - length rest)) (sym t.parts);
    }

-- a refusal answers no value
pub not_bad : {X Y : Type 0} (view : X → Y) (r : Result X ReadRefusal) (y : Y) → IsBad r → Gives view r (Ok y) → ⊥
not_bad view (Ok x) y bad given = bad
not_bad view (Err refusals.NoMemory) y bad given = bad
not_bad view (Err (refusals.Bad refusal)) y bad given = absurd cc

pub record ValueFront (bytes : List ℕ) (v : Value) (rest : List ℕ) : Type 0 where
  pub readable : IsReadable v
  pub at : Front bytes (spelling v) rest

pub value_front : (bytes : List ℕ) (v : Value) (rest : List ℕ) → IsBytes bytes → value_at depth_limit bytes ≡ Ok (v, rest) → ValueFront bytes v rest
value_front bytes v rest fits e =
    let so = value_takes depth_limit bytes (v, rest) fits e in
    record { readable = record { within = so.within; words = so.words }; at = front_of bytes (spelling v) rest so.takes }

pub value_only : (bytes : List ℕ) (v : Value) (rest : List ℕ) → length bytes < 2 ^ 64 → IsReadable v → bytes ≡ spelling v ++ rest → value_at depth_limit bytes ≡ Ok (v, rest)
value_only bytes v rest small readable e =
    let size : length bytes ≡ length (spelling v) + length rest = ap length e ∙ length-append (spelling v) rest in
    ap (value_at depth_limit) e ∙ value_again v depth_limit rest readable.within readable.words (omega arith)
