-- A buffer that is filled from the front.
use Rattle.std.proofs.Common.{◌≡◌, ℕ, ◌+◌, List, ◌++◌, length, take, drop, sym, ap, ◌∙◌}
use Rattle.std.proofs.Math.Seq.{take-add, take-append-add}
use Rattle.std.proofs.lemmas.List.{drop-drop}

-- what was there is the front of the text, and what comes is the text from there on
pub filled_more : (front buffer text : List ℕ) (done n : ℕ) → length front ≡ done → front ≡ take done text → take n buffer ≡ take n (drop done text)
    → take (done + n) (front ++ buffer) ≡ take (done + n) text
filled_more front buffer text done n size begun read =
    ap (λ k. take (k + n) (front ++ buffer)) (sym size) ∙ take-append-add front buffer n ∙ ap (λ t. t ++ take n buffer) begun
    ∙ ap (λ t. take done text ++ t) read ∙ sym (take-add done n text)

-- what was there is the front of the text from `at` on, and what comes is the text after it
pub filled_on : (front buffer text : List ℕ) (at done n : ℕ) → length front ≡ done → front ≡ take done (drop at text)
    → take n buffer ≡ take n (drop (at + done) text) → take (done + n) (front ++ buffer) ≡ take (done + n) (drop at text)
filled_on front buffer text at done n size begun read =
    filled_more front buffer (drop at text) done n size begun (read ∙ ap (λ t. take n t) (sym (drop-drop done at text)))
