-- Examples of listings. Document 01, end of "Frames to check against"; document 02, CR 1, for the lines of settings, and CR 2, for a frame without its footer.
use Rattle.std.specs.Prelude.{ℕ, ◌≡◌, List, [], ◌∷◌, ◌++◌}
use Rattle.frame.specs.Ascii.{carriage_return, line_feed}
use Rattle.frame.specs.declared.framing.Footer.TheVariants.{Optional}
use Rattle.frame.specs.declared.framing.Ending.TheVariants.{CrLf}
use Rattle.frame.specs.declared.framing.Format.TheVariants.{Binary, Ascii}
use Rattle.message.specs.Text.{text}
use Rattle.listing.specs.Line.{lines_of}
use Rattle.listing.specs.Claims.{listing}

-- Document 01's example, byte for byte.
abbrev pub ExampleIsListed : Type 0
ExampleIsListed =
    listing (Ascii CrLf) (text "ab:00010203FA" ++ (carriage_return ∷ line_feed ∷ (text ":DBA1120171" ++ (carriage_return ∷ line_feed ∷ []))))
    ≡ text "simple 00 01 0203" ++ (line_feed ∷ (text "response 12 ok" ++ (line_feed ∷ (text "noise 2" ++ (line_feed ∷ [])))))

-- A frame of 7 bytes, without its footer: its line has 15, more than two for each byte.
abbrev pub FooterlessIsListed : Type 0
FooterlessIsListed =
    listing (Binary Optional) (0xA5 ∷ 0x5A ∷ 0x80 ∷ 0x02 ∷ 0x78 ∷ 0x00 ∷ 0x78 ∷ [])
    ≡ text "simple 78 00 -" ++ (line_feed ∷ (text "noise 0" ++ (line_feed ∷ [])))

-- A line of each kind, from frames of these payloads.
abbrev pub payloads_shown : List (List ℕ)
payloads_shown =
    (0x78 ∷ 0x00 ∷ [])
    ∷ (0x00 ∷ 0xA0 ∷ 0xFE ∷ 0x00 ∷ 0x00 ∷ 0x00 ∷ 0x00 ∷ 0x00 ∷ 0x00 ∷ 0x01 ∷ 0x01 ∷ 0x0A ∷ 0x00 ∷ 0x02 ∷ 0x11 ∷ 0xBC ∷ [])
    ∷ (0xDB ∷ 0xA1 ∷ 0x13 ∷ 0x00 ∷ [])
    ∷ (0x78 ∷ 0x81 ∷ 0x15 ∷ 0x01 ∷ 0x75 ∷ 0x81 ∷ 0x00 ∷ 0x00 ∷ 0x38 ∷ 0x00 ∷ 0x26 ∷ 0xC9
    ∷ 0x00 ∷ 0x0C ∷ 0x04 ∷ 0x22 ∷ 0x01 ∷ 0x00 ∷ 0xFF ∷ 0xFF ∷ 0xFF ∷ 0xFF ∷ 0xFF ∷ [])
    ∷ (0x78 ∷ 0x81 ∷ 0x0F ∷ 0x01 ∷ 0x75 ∷ 0x81 ∷ 0x00 ∷ 0x00 ∷ 0x38 ∷ 0x00 ∷ 0x26 ∷ 0xC9
    ∷ 0x00 ∷ 0xBE ∷ 0xEF ∷ 0x00 ∷ 0x01 ∷ 0x00 ∷ 0x00 ∷ 0x00 ∷ [])
    ∷ (0xDB ∷ 0xF0 ∷ 0x01 ∷ [])
    ∷ (0xDB ∷ 0xF1 ∷ 0x67 ∷ 0x72 ∷ 0x01 ∷ 0x02 ∷ 0x00 ∷ 0x01 ∷ 0x04 ∷ 0x07 ∷ 0x78 ∷ 0x81 ∷ 0x00 ∷ 0x00 ∷ 0x38 ∷ 0x00 ∷ 0x01 ∷ [])
    ∷ (0xDB ∷ 0xF3 ∷ [])
    ∷ (0xDB ∷ 0xF3 ∷ 0x03 ∷ 0x78 ∷ [])
    ∷ (0xDB ∷ 0xF3 ∷ 0xFF ∷ [])
    ∷ (0xDB ∷ 0xF8 ∷ 0x11 ∷ 0x01 ∷ [])
    ∷ (0x01 ∷ [])
    ∷ (0xDB ∷ 0xA1 ∷ 0x01 ∷ 0x02 ∷ [])
    ∷ (0xDB ∷ 0xF3 ∷ 0x03 ∷ [])
    ∷ []

abbrev pub KindsAreListed : Type 0
KindsAreListed =
    lines_of payloads_shown
    ≡ text "simple 78 00 -"
    ++ (line_feed ∷ (text "extended 00 FE 00000000 00000101 0A 11BC"
    ++ (line_feed ∷ (text "response 13 fail"
    ++ (line_feed ∷ (text "standard 78 81000038 75 0C04 01"
    ++ (line_feed ∷ (text "remote 78 81000038 75 BEEF"
    ++ (line_feed ∷ (text "settings F0 01"
    ++ (line_feed ∷ (text "settings F1 677201020001040778810000380001"
    ++ (line_feed ∷ (text "settings F3 -"
    ++ (line_feed ∷ (text "settings F3 0378"
    ++ (line_feed ∷ (text "settings F3 FF"
    ++ (line_feed ∷ (text "settings F8 1101"
    ++ (line_feed ∷ (text "refused 7"
    ++ (line_feed ∷ (text "refused 11" ++ (line_feed ∷ (text "refused 17" ++ (line_feed ∷ [])))))))))))))))))))))))))))
