mod AskedParts
mod Depths
mod FirstText
mod LastIds
