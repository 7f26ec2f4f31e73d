mod Decided
mod HexTexts
mod KindNames
