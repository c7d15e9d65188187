-- A binding's words, one by one, are the binding.
use Rattle.std.specs.Prelude.{◌≡◌, refl, List, ℕ, ◌+◌, ◌*◌, get_or}
use Rattle.term_spec.specs.Words.{record_at}
use Rattle.match_spec.specs.Pattern.{Binding, binding_of, binding_layout}
use Rattle.words.specs.RecordLaws.{record_read}

pub binding_read : (w : List ℕ) (i : ℕ) {kind offset size start len : ℕ} →
    let p = i * binding_layout.width in
    kind ≡ get_or w p 0 → offset ≡ get_or w (p + 1) 0 → size ≡ get_or w (p + 2) 0 → start ≡ get_or w (p + 3) 0 → len ≡ get_or w (p + 4) 0
    → ◌≡◌ {A = Binding} (record { kind = kind; offset = offset; size = size; start = start; len = len }) (record_at binding_layout w i)
unfolding binding_of
binding_read w i p q r s l = cc (record_read binding_layout (λ k. refl) w i)
