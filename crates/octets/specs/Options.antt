-- Two readings one after the other, of which each may fail. Assumes nothing: this is a definition.
use Rattle.std.specs.Prelude.{Option, Some, None}

-- none where the first fails; else what the second makes of the value
unfoldable pub bind : {A B : Type 0} → Option A → (A → Option B) → Option B
bind None f = None
bind (Some x) f = f x
