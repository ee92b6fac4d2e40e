-- The burst call: its refusals in order, and when an answer is right. Assumes nothing.
use Rattle.std.specs.Prelude.{ℕ, ◌+◌, ◌≤◌, ◌≡◌, not, ◌&&◌, List, [], ◌∷◌, ◌++◌, length, leb}
use Rattle.words.specs.declared.handle.Handle.{Handle}
use Rattle.words.specs.Strip.{strip_of, span_ones}
use Rattle.words.specs.Refusals.{Line, ◌⇒◌, Judged, Told, value, refused}
use Rattle.words.specs.Handles.{untaken, strip_lines}

-- the widest window
abbrev pub most_width : ℕ
most_width = 65536

-- 17 w not 1 to 65,536, or m not 1 to w
abbrev pub window_table : ℕ → ℕ → List Line
window_table w m = (not ((leb 1 w && leb w most_width) && (leb 1 m && leb m w)) ⇒ 17) ∷ []

-- the checks of a burst: 1, 2; 17
abbrev pub burst_table : Handle → ℕ → ℕ → ℕ → List Line
burst_table h words w m = strip_lines h words untaken ++ window_table w m

-- a window of w strokes that starts at a lies wholly inside the strip and holds at least m misfires
pub record Qualifies (s : List ℕ) (w m a : ℕ) : Type 0 where
  pub inside : a + w ≤ length s
  pub enough : m ≤ span_ones s a (a + w)

-- an answer that no check refuses: the start of any window that qualifies; 6 where none does
abbrev pub RightBurst : List ℕ → ℕ → ℕ → Told → Type 0
RightBurst s w m (value a) = Qualifies s w m a
RightBurst s w m (refused n) = ((a : ℕ) → Qualifies s w m a → ⊥) × (n ≡ 6)

-- burst(w, m): 1, 2; 17; 6 no window qualifies
abbrev pub Burst : Handle → List ℕ → ℕ → ℕ → Told → Type 0
Burst h ws w m = Judged (burst_table h (length ws) w m) refused (RightBurst (strip_of ws h.length) w m)
