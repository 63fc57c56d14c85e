-- What holds of the frames of leaf links, whatever the code does.
use Rattle.std.specs.Prelude.{◌≡◌, ℕ, List, ◌++◌, length}
use Rattle.nats_frames.specs.declared.stream.First.TheVariants.{Frame}
use Rattle.leaf_frames.specs.declared.frame.LeafFrame.{LeafFrame}
use Rattle.leaf_frames.specs.Frames.{first}
use Rattle.leaf_frames.specs.Kinds.{IsLeaf}
use Rattle.leaf_frames.specs.Texts.{text, IsWithinBounds}

-- a reading gives frames of leaf links alone
abbrev pub GivesLeafFrames : Type 0
GivesLeafFrames = (bytes : List ℕ) (frame : LeafFrame) (len : ℕ) → first bytes ≡ Frame frame len → IsLeaf frame

-- a frame that a reading gives, and whose text is within the bounds, is read again from its text,
-- whatever stands behind it
abbrev pub ReadsItsText : Type 0
ReadsItsText = (bytes : List ℕ) (frame : LeafFrame) (len : ℕ) → first bytes ≡ Frame frame len → IsWithinBounds frame → (behind : List ℕ) → first (text frame ++ behind) ≡ Frame frame (length (text frame))

-- each frame of a leaf link whose text is within the bounds is read from its text, whatever stands behind it
abbrev pub ReadsEachText : Type 0
ReadsEachText = (frame : LeafFrame) → IsLeaf frame → IsWithinBounds frame → (behind : List ℕ) → first (text frame ++ behind) ≡ Frame frame (length (text frame))
